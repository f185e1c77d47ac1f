use Rattle.std.proofs.Common.{◌≡◌, ◌∙◌, ℕ, true, List, length, slice_index, subst}
use Rattle.model.specs.Graph.{has_number}
use Rattle.graph.specs.Links.{links_of}
use Rattle.reasons.specs.Order.{listed_below}
use Rattle.reasons.proofs.Ordering.{at_index, listed_has, same_cone}
use Rattle.reasons.proofs.order.in_order.Goals as goal

pub of-requires : goal.of-requires
of-requires c k lt =
    let are : c.deref.result.now ≡ listed_below c.args.cone.now.marks.items (length c.args.graph.now.manifest.lines) = c.deref.ensures.value ∙ c.in_ok-requested.ensures in
    (listed_has c.args.cone.now.marks.items (length c.args.graph.now.manifest.lines) (slice_index c.deref.result.now k) (subst (λ (l : List ℕ). has_number l (slice_index c.deref.result.now k) ≡ true) are (at_index c.deref.result.now k lt))).0

pub returns-in-Ok-clause-ordered : goal.returns-in-Ok-clause-ordered
returns-in-Ok-clause-ordered c = c.in-Ok.ensures.cone.ordered

pub returns-in-Ok-clause-same : goal.returns-in-Ok-clause-same
returns-in-Ok-clause-same c edges recorded targets linked cone =
    same_cone edges recorded targets (links_of c.args.graph.now) linked c.args.cone.now.order.items c.args.cone.now.marks.items cone c.deref.result.now (c.deref.ensures.value ∙ c.in_ok-requested.ensures)
    c.in-Ok.sorted.order.items c.in-Ok.sorted.marks.items c.in-Ok.ensures.cone
