use Rattle.std.proofs.Common.{◌≡◌, ℕ, ◌≤◌, ◌<◌, ◌*◌, drop, length}
use Rattle.plan.specs.Tree.{AreJoinedBut}
use Rattle.plan.proofs.lowest.join_above.Given as goal

abbrev pub invariant-loop-node : goal.invariant-loop-node
invariant-loop-node l =
    (2 * l.node < length l.tree)
    × AreJoinedBut l.node l.tree
    × ((start : ℕ) → length l.tree ≤ 2 * start → drop start l.tree ≡ drop start l.initial.tree)

abbrev pub decreases-loop-node : goal.decreases-loop-node
decreases-loop-node l = l.node
