use Rattle.std.proofs.Common.{◌<◌, ℕ, List, ap, sym, ◌∙◌, get_or, length, subst, IfErr, arith, rules}
use Rattle.std.specs.Prelude.{All}
use Rattle.std.proofs.lemmas.List.{get_or_default}
use Rattle.graph.specs.Links.{links_of}
use Rattle.graph.specs.Cone.{IsConeFault}
use Rattle.graph.specs.Places.{ArePlaces}
use Rattle.graph.proofs.ConesOf.{cone_for_each, fault_in}
use Rattle.graph.proofs.Walking.{cone_end, listed_within}
use Rattle.graph.proofs.cone.Cone.of.Goals as goal

pub returns-in_err-list_requested-clause-shown : goal.returns-in_err-list_requested-clause-shown
returns-in_err-list_requested-clause-shown c =
    let fault : IfErr c.from_residual-in_err-list_requested.result (IsConeFault (links_of c.args.graph.now) c.args.requested.now) = search rules in
    fault_in (links_of c.args.graph.now) c.args.requested.now c.from_residual-in_err-list_requested.result fault

pub returns-in_err-list_validators-clause-shown : goal.returns-in_err-list_validators-clause-shown
returns-in_err-list_validators-clause-shown c =
    let fault : IfErr c.from_residual-in_err-list_validators.result (IsConeFault (links_of c.args.graph.now) c.args.requested.now) = search rules in
    fault_in (links_of c.args.graph.now) c.args.requested.now c.from_residual-in_err-list_validators.result fault

pub returns-clause-cone : goal.returns-clause-cone
returns-clause-cone c =
    let zero = c.in_ok-walk.walk in
    let one = c.list_requested.new.self in
    let two = c.list_validators.new.self in
    cone_end (links_of c.args.graph.now) (links_of zero.graph.now) (links_of one.graph.now) c.args.requested.now zero.requested.now one.requested.now one.marks.items two.order.items two.marks.items two.left.items two.stack.items
    (ap links_of c.in_ok-walk.ensures.walk.same) (ap links_of c.in_ok-list_requested.ensures.walk.same) c.in_ok-walk.ensures.walk.asked c.in_ok-list_requested.ensures.walk.asked
    c.in_ok-list_validators.ensures.walk.at c.in_ok-list_validators.ensures.stack c.in_ok-list_requested.ensures.seen c.in_ok-list_validators.ensures.keeps c.in_ok-list_validators.ensures.validated

pub returns-clause-cone_of : goal.returns-clause-cone_of
returns-clause-cone_of c =
    let zero = c.in_ok-walk.walk in
    let one = c.list_requested.new.self in
    let two = c.list_validators.new.self in
    cone_for_each (links_of c.args.graph.now) c.args.requested.now two.order.items two.marks.items
    (cone_end (links_of c.args.graph.now) (links_of zero.graph.now) (links_of one.graph.now) c.args.requested.now zero.requested.now one.requested.now one.marks.items two.order.items two.marks.items two.left.items two.stack.items
    (ap links_of c.in_ok-walk.ensures.walk.same) (ap links_of c.in_ok-list_requested.ensures.walk.same) c.in_ok-walk.ensures.walk.asked c.in_ok-list_requested.ensures.walk.asked
    c.in_ok-list_validators.ensures.walk.at c.in_ok-list_validators.ensures.stack c.in_ok-list_requested.ensures.seen c.in_ok-list_validators.ensures.keeps c.in_ok-list_validators.ensures.validated)

pub returns-clause-within : goal.returns-clause-within
returns-clause-within c k d lt =
    let one = c.list_requested.new.self in
    let two = c.list_validators.new.self in
    listed_within (links_of one.graph.now) (links_of c.args.graph.now) one.requested.now two.order.items two.marks.items two.left.items two.stack.items
    (sym (ap links_of (c.in_ok-list_requested.ensures.walk.same ∙ c.in_ok-walk.ensures.walk.same))) c.in_ok-list_validators.ensures.walk.at k (get_or two.order.items k d) lt (get_or_default two.order.items k d 0 lt)

pub places_of-requires : goal.places_of-requires
places_of-requires c =
    let one = c.list_requested.new.self in
    let two = c.list_validators.new.self in
    let within : All (λ e. e < c.edges.result) two.order.items =
    λ k d lt. subst (λ (n : ℕ). get_or two.order.items k d < n) (sym c.edges.ensures)
    (listed_within (links_of one.graph.now) (links_of c.args.graph.now) one.requested.now two.order.items two.marks.items two.left.items two.stack.items
    (sym (ap links_of (c.in_ok-list_requested.ensures.walk.same ∙ c.in_ok-walk.ensures.walk.same))) c.in_ok-list_validators.ensures.walk.at k (get_or two.order.items k d) lt (get_or_default two.order.items k d 0 lt)) in
    subst (All (λ e. e < c.edges.result)) (sym c.deref.ensures.value) within

pub invariant_of-result-clause-sized : goal.invariant_of-result-clause-sized
invariant_of-result-clause-sized c =
    let two = c.list_validators.new.self in
    let lines = ap (λ g. length g.manifest.lines) (c.in_ok-list_requested.ensures.walk.same ∙ c.in_ok-walk.ensures.walk.same) in
    omega (arith, c.in_ok-places.ensures.sized, c.edges.ensures, c.in_ok-list_validators.ensures.walk.at.fits, lines, two.marks.ok.0)

pub invariant_of-result-clause-placed : goal.invariant_of-result-clause-placed
invariant_of-result-clause-placed c = subst (λ (l : List ℕ). ArePlaces l c.in_ok-places.places.items) c.deref.ensures.value c.in_ok-places.ensures.placed
