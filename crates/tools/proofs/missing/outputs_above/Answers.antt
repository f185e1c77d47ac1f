use Rattle.std.proofs.Common.{◌≡◌, ℕ, Bool, false, List, filter, get_or, ap, subst, ◌∙◌}
use Rattle.std.specs.List.{flat_map}
use Rattle.graph.specs.Links.{links_of}
use Rattle.tools.specs.Above.{AreNamedBy}
use Rattle.tools.proofs.NamedAbove.{named_made}
use Rattle.tools.proofs.Putting.{if_ok_then}
use Rattle.tools.proofs.missing.outputs_above.Goals as goal

pub returns : goal.returns
returns c =
    let graph = c.args.graph.now in
    let edges = c.in_ok-edges.edges.items in
    let marks = c.in_ok-named.named.items in
    let kept = λ (l : List Bool) (es : List ℕ). flat_map (λ (e : ℕ). filter (λ (p : ℕ). get_or l p false) ((links_of graph).outputs e)) es in
    let named = subst (λ (l : List ℕ). AreNamedBy graph c.args.paths.now l marks) c.as_slice.ensures.value c.in_ok-named.ensures in
    if_ok_then c.marked_outputs.result c.marked_outputs.ensures
    (λ outputs is. named_made graph c.args.paths.now edges marks graph.making c.in_ok-edges.ensures named outputs.items
    (is ∙ (ap (λ (l : List ℕ). kept c.as_slice-3.result.now l) c.as_slice-2.ensures.value ∙ ap (λ (l : List Bool). kept l edges) c.as_slice-3.ensures.value)))
