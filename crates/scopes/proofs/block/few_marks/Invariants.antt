use Rattle.std.proofs.Common.{take}
use Rattle.scopes.specs.Block.{last_value}
use Rattle.scopes.specs.Marks.{AreMarked}
use Rattle.scopes.proofs.block.few_marks.Given as goal

abbrev pub invariant-loop-bound : goal.invariant-loop-bound
invariant-loop-bound l = AreMarked (last_value (take l.bound-index l.few)) l.marks
