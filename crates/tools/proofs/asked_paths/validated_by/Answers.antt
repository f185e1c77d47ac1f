use Rattle.std.proofs.Common.{◌++◌, ◌∷◌, [], ℕ, List, filter, sym, ap, ◌∙◌}
use Rattle.std.specs.List.{range_with_len}
use Rattle.model.specs.Graph.{has_number}
use Rattle.graph.specs.Links.{links_of}
use Rattle.tools.proofs.Putting.{filter_counted}
use Rattle.tools.proofs.asked_paths.validated_by.Goals as goal

pub loop-place-preserved : goal.loop-place-preserved
loop-place-preserved c =
    let test = λ (e : ℕ). has_number ((links_of c.args.declared.now.graph).validations e) c.args.path in
    let place = c.loop-place.place in
    c.in_ok-push_if_validated.ensures ∙ (ap (λ (l : List ℕ). l ++ filter test (c.edge-edge.result ∷ [])) c.loop-place.invariant
    ∙ (ap (λ (e : ℕ). filter test (range_with_len 0 place) ++ filter test (e ∷ [])) c.edge-edge.ensures ∙ sym (filter_counted test place)))
