use Rattle.std.proofs.Common.{take}
use Rattle.log_text.specs.Kept.{AreDistinct}
use Rattle.log_text.proofs.outputs.few_are_distinct.Given as goal

abbrev pub invariant-loop-place : goal.invariant-loop-place
invariant-loop-place l = AreDistinct (take l.place l.outputs)
