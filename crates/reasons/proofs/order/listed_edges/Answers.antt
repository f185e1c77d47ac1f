use Rattle.std.proofs.Common.{◌≡◌, ◌∙◌, ◌++◌, ◌∷◌, ◌+◌, [], ℕ, suc, List, if◌then◌else◌, ap, arith}
use Rattle.graph.specs.Cone.{is_listed, mark_at}
use Rattle.reasons.specs.Order.{listed_below}
use Rattle.reasons.proofs.order.listed_edges.Goals as goal

pub loop-place-preserved : goal.loop-place-preserved
loop-place-preserved c =
    let marks = c.args.cone.now.marks.items in
    let place = c.loop-place.place in
    let one : ℕ → List ℕ = λ e. if is_listed (mark_at marks e) then e ∷ [] else [] in
    let next : suc place ≡ place + 1 = omega arith in
    c.in_ok-push_listed.ensures
    ∙ (ap (λ (l : List ℕ). l ++ one c.edge.result) c.loop-place.invariant ∙ (ap (λ (e : ℕ). listed_below marks place ++ one e) c.edge.ensures ∙ ap (listed_below marks) next))
