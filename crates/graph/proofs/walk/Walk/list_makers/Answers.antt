use Rattle.std.proofs.Common.{ℕ, ap, arith, ◌∙◌}
use Rattle.std.proofs.lemmas.List.{get_or_default}
use Rattle.graph.specs.Links.{links_of}
use Rattle.graph.proofs.Walking.{needed_beside}
use Rattle.graph.proofs.walk.Walk.list_makers.Goals as goal

pub list_from-requires-clause-needed : goal.list_from-requires-clause-needed
list_from-requires-clause-needed c =
    let walk = c.args.self.now in
    needed_beside (links_of walk.graph.now) (links_of c.loop-path.self.graph.now) walk.requested.now c.loop-path.self.requested.now c.validations-path-items.result.now c.args.edge c.loop-path.path-index c.in-Some.maker
    (ap links_of c.loop-path.invariant.walk.same) c.loop-path.invariant.walk.asked c.requires.needed
    c.validations-path-items.ensures
    c.loop-path-test.true (c.in-Some.ensures.value ∙ ap (λ (n : ℕ). (links_of walk.graph.now).maker n) (c.path-item.is ∙ get_or_default c.validations-path-items.result.now c.loop-path.path-index c.path-item.result 0 (omega arith)))
