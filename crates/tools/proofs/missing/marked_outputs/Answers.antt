use Rattle.std.proofs.Common.{◌++◌, ℕ, List, false, filter, get_or, take, ap, sym, ◌∙◌}
use Rattle.std.specs.List.{flat_map}
use Rattle.std.proofs.lemmas.List.{take_all}
use Rattle.graph.specs.Links.{links_of}
use Rattle.tools.proofs.Putting.{flat_next}
use Rattle.tools.proofs.missing.marked_outputs.Goals as goal

pub loop-edge-preserved : goal.loop-edge-preserved
loop-edge-preserved c =
    let marks = c.args.marks.now in
    let links = links_of c.args.graph.now in
    let kept = λ (e : ℕ). filter (λ (p : ℕ). get_or marks p false) (links.outputs e) in
    let edge = c.edge-item.result in
    c.in_ok-push_marked.ensures ∙ (ap (λ (l : List ℕ). l ++ filter (λ (p : ℕ). get_or marks p false) c.outputs_at.result.now) c.loop-edge.invariant
    ∙ (ap (λ (l : List ℕ). flat_map kept (take c.loop-edge.edge-index c.args.edges.now) ++ filter (λ (p : ℕ). get_or marks p false) l) c.outputs_at.ensures
    ∙ sym (flat_next kept c.args.edges.now c.loop-edge.edge-index edge c.loop-edge-test.true c.edge-item.is)))

pub returns : goal.returns
returns c =
    let kept = λ (e : ℕ). filter (λ (p : ℕ). get_or c.args.marks.now p false) ((links_of c.args.graph.now).outputs e) in
    c.loop-edge.invariant ∙ ap (flat_map kept) (take_all c.loop-edge.edge-index c.args.edges.now c.loop-edge-test.false)
