use Rattle.std.proofs.Common.{◌≡◌, ◌*◌, ◌+◌, ◌||◌, arith, ◌∙◌}
use Rattle.plan.specs.Tree.{node_at}
use Rattle.plan.proofs.Levels.{joined_up, or_then, or_next, leaves_stay}
use Rattle.std.proofs.lemmas.List.{length-set}
use Rattle.plan.proofs.lowest.join_above.Goals as goal
use Rattle.plan.proofs.lowest.join_above.Goals.{then-tree-node, else-tree-node}

pub loop-node-preserved : goal.loop-node-preserved
loop-node-preserved c =
    let is : c.if-tree-node.tree ≡ (node_at c.loop-node.tree (2 * c.loop-node.node) || node_at c.loop-node.tree (2 * c.loop-node.node + 1)) =
    elim c.if-tree-node.branch [
      | then-tree-node w ↦ or_then (node_at c.loop-node.tree (2 * c.loop-node.node)) (node_at c.loop-node.tree (2 * c.loop-node.node + 1)) c.if-tree-node.tree w.if-tree-node.true (w.tree-is ∙ w.if-tree-node.true)
      | else-tree-node w ↦ or_next (node_at c.loop-node.tree (2 * c.loop-node.node)) (node_at c.loop-node.tree (2 * c.loop-node.node + 1)) c.if-tree-node.tree w.if-tree-node.false w.tree-is
    ] in
    let low = c.loop-node.invariant.0 in
    let above = c.loop-node-test.true in (
      omega (arith, low, above, length-set c.loop-node.tree c.loop-node.node c.if-tree-node.tree),
      joined_up c.loop-node.tree c.loop-node.node c.if-tree-node.tree c.loop-node.invariant.1 is above,
      λ start past. leaves_stay c.loop-node.tree c.loop-node.node c.if-tree-node.tree start low past ∙ c.loop-node.invariant.2 start (omega (arith, past, length-set c.loop-node.tree c.loop-node.node c.if-tree-node.tree)),
    )
