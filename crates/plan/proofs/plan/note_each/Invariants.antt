use Rattle.std.proofs.Common.{◌≡◌}
use Rattle.plan.proofs.Noting.{noted}
use Rattle.plan.proofs.plan.note_each.Given as goal

abbrev pub invariant-loop-path : goal.invariant-loop-path
invariant-loop-path l = noted l.flags l.path-iterator.a.rest.now l.path-iterator.b.rest.now ≡ noted l.fn.flags l.fn.paths l.fn.changed
