use Rattle.std.proofs.Common.{List, Bool, subst}
use Rattle.plan.specs.Flags.{AreNone}
use Rattle.plan.proofs.Levels.{none_of, root_read}
use Rattle.plan.proofs.lowest.Lowest.first.Goals as goal

pub returns-then-not-index : goal.returns-then-not-index
returns-then-not-index c =
    subst (λ (l : List Bool). AreNone l) c.self.view_is
    (none_of c.self.inside.height c.self.inside.leaves c.self.inside.tree.items c.self.invariant
    (root_read c.self.inside.height c.self.inside.leaves c.self.inside.tree.items c.index.result.now c.self.invariant c.index.ensures c.if-not-index.true))
