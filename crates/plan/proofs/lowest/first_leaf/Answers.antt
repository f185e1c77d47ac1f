use Rattle.std.proofs.Common.{◌≡◌, inl, inr, ◌*◌, ℕ, List, Bool, true, false, get_or, arith, ap, ◌∙◌}
use Rattle.plan.proofs.Levels.{next_level, node_fits}
use Rattle.plan.proofs.lowest.first_leaf.Goals as goal
use Rattle.plan.proofs.lowest.first_leaf.Goals.{then-not-tree-node, else-not-tree-node}

pub bounds-tree-node : goal.bounds-tree-node
bounds-tree-node c = omega (arith, node_fits c.args.tree.now c.args.height c.loop-level._level c.loop-level.node c.requires.size c.loop-level-test.true c.loop-level.invariant)

twice : (tree : List Bool) (node : ℕ) (b : Bool) → get_or tree (node * 2) false ≡ b → get_or tree (2 * node) false ≡ b
twice tree node b is = ap (λ (n : ℕ). get_or tree n false) (omega arith) ∙ is

pub loop-level-preserved : goal.loop-level-preserved
loop-level-preserved c =
    next_level c.args.tree.now c.args.height c.loop-level._level c.loop-level.node c.if-not-tree-node.node c.requires.size c.requires.joined c.loop-level-test.true c.loop-level.invariant
    (elim c.if-not-tree-node.branch [
      | then-not-tree-node w ↦ inr (twice c.args.tree.now c.loop-level.node false w.if-not-tree-node.true, omega (arith, w.node-is))
      | else-not-tree-node w ↦ inl (twice c.args.tree.now c.loop-level.node true w.if-not-tree-node.false, omega (arith, w.node-is))
    ])
