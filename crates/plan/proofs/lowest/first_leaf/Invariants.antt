use Rattle.std.proofs.Common.{◌^◌}
use Rattle.plan.specs.Tree.{IsFirstAt}
use Rattle.plan.proofs.lowest.first_leaf.Given as goal

abbrev pub invariant-loop-level : goal.invariant-loop-level
invariant-loop-level l = IsFirstAt (2 ^ l._level) l.tree l.node
