use Rattle.std.proofs.Common.{length, take}
use Rattle.plan.proofs.Arriving.{HaveCome}
use Rattle.plan.proofs.plan.note_all.Given as goal

abbrev pub invariant-loop-path : goal.invariant-loop-path
invariant-loop-path l = HaveCome (length l.fn.flags) (take l.path-index l.paths) l.fn.flags l.flags
