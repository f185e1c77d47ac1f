use Rattle.std.proofs.Common.{◌≡◌, length}
use Rattle.scopes.specs.Block.{last_value}
use Rattle.scopes.proofs.block.last_value.Given as goal

abbrev pub invariant-loop-last : goal.invariant-loop-last
invariant-loop-last l = last_value l.rest l.name ≡ last_value l.fn.bound l.name

abbrev pub decreases-loop-last : goal.decreases-loop-last
decreases-loop-last l = length l.rest
