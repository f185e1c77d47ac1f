use Rattle.std.proofs.Common.{ap, arith, ◌∙◌}
use Rattle.std.proofs.lemmas.List.{get_or_default}
use Rattle.graph.specs.Links.{links_of}
use Rattle.graph.proofs.Walking.{needed_listed, listed_within}
use Rattle.graph.proofs.walk.Walk.list_validators.Goals as goal

pub list_makers-requires-clause-within : goal.list_makers-requires-clause-within
list_makers-requires-clause-within c =
    let walk = c.loop-place.self in
    listed_within (links_of c.args.self.now.graph.now) (links_of walk.graph.now) c.args.self.now.requested.now walk.order.items walk.marks.items walk.left.items walk.stack.items (ap links_of c.loop-place.invariant.walk.same) c.loop-place.invariant.walk.at
    c.loop-place.place c.index-edge.result.now (omega arith) (c.index-edge.ensures ∙ get_or_default walk.order.items c.loop-place.place c.index-edge.result.now 0 (omega arith))

pub list_makers-requires-clause-needed : goal.list_makers-requires-clause-needed
list_makers-requires-clause-needed c =
    let walk = c.loop-place.self in
    needed_listed (links_of c.args.self.now.graph.now) (links_of walk.graph.now) c.args.self.now.requested.now walk.requested.now walk.order.items walk.marks.items walk.left.items walk.stack.items
    (ap links_of c.loop-place.invariant.walk.same) c.loop-place.invariant.walk.asked c.loop-place.invariant.walk.at c.loop-place.place c.index-edge.result.now (omega arith)
    (c.index-edge.ensures ∙ get_or_default walk.order.items c.loop-place.place c.index-edge.result.now 0 (omega arith))
