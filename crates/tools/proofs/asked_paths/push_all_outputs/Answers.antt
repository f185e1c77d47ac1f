use Rattle.std.proofs.Common.{ℕ, List, codes, sym, ap, ◌∙◌, subst, string_bytes, take}
use Rattle.std.proofs.lemmas.List.{take_all}
use Rattle.graph.specs.Links.{links_of}
use Rattle.tools.specs.Answers.{Puts, marked, outputs_of}
use Rattle.tools.proofs.Putting.{flat_next, puts_none, puts_then}
use Rattle.tools.proofs.asked_paths.push_all_outputs.Goals as goal

pub loop-edge-init : goal.loop-edge-init
loop-edge-init c = puts_none (string_bytes c.args.told.now)

pub loop-edge-preserved : goal.loop-edge-preserved
loop-edge-preserved c =
    let declared = c.args.declared.now in
    let edge = c.edge-item.result in
    let old = string_bytes c.args.told.now in
    let new = string_bytes c.push_paths.new.told in
    let one = subst (λ (l : List ℕ). Puts (string_bytes c.loop-edge.told) new (marked declared (codes "    ") l)) c.outputs_at.ensures c.in_ok-push_paths.ensures in
    subst (Puts old new)
    (sym (flat_next (λ (e : ℕ). marked declared (codes "    ") ((links_of declared.graph).outputs e)) c.args.edges.now c.loop-edge.edge-index edge c.loop-edge-test.true c.edge-item.is))
    (puts_then old (string_bytes c.loop-edge.told) new (outputs_of declared (take c.loop-edge.edge-index c.args.edges.now)) (marked declared (codes "    ") ((links_of declared.graph).outputs edge)) c.loop-edge.invariant one)

pub returns : goal.returns
returns c =
    subst (λ (l : List ℕ). Puts (string_bytes c.args.told.now) (string_bytes c.loop-edge.told) (outputs_of c.args.declared.now l)) (take_all c.loop-edge.edge-index c.args.edges.now c.loop-edge-test.false) c.loop-edge.invariant
