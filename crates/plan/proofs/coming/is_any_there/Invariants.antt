use Rattle.std.proofs.Common.{take}
use Rattle.plan.specs.Coming.{AreAway}
use Rattle.plan.proofs.coming.is_any_there.Given as goal

abbrev pub invariant-loop-file : goal.invariant-loop-file
invariant-loop-file l = AreAway l.there (take l.file-index l.loads)
