use Rattle.std.proofs.Common.{ap, arith, ℕ, sym, subst, ◌∙◌}
use Rattle.std.proofs.lemmas.List.{get_or_default}
use Rattle.graph.specs.Links.{links_of}
use Rattle.graph.specs.Cone.{IsNeeded}
use Rattle.graph.proofs.Walking.{needed_asked}
use Rattle.graph.proofs.walk.Walk.list_requested.Goals as goal

pub list_from-requires-clause-needed : goal.list_from-requires-clause-needed
list_from-requires-clause-needed c =
    let walk = c.loop-edge.self in
    subst (λ (n : ℕ). IsNeeded (links_of walk.graph.now) walk.requested.now n) (sym {A = ℕ} (c.edge-item.is ∙ get_or_default c.args.self.now.requested.now c.loop-edge.edge-index c.edge-item.result 0 (omega arith)))
    (needed_asked (links_of c.args.self.now.graph.now) (links_of walk.graph.now) c.args.self.now.requested.now walk.requested.now c.loop-edge.edge-index (ap links_of c.loop-edge.invariant.walk.same) c.loop-edge.invariant.walk.asked (omega arith))
