use Rattle.std.proofs.Common.{◌≡◌, ◌<◌, ◌≤◌, ℕ, Bool, true, false, List, Option, is_some, length, get_or, sym, ◌∙◌, ap, subst, arith, rules}
use Rattle.std.specs.List.{flat_map}
use Rattle.std.proofs.lemmas.List.{drop_all}
use Rattle.graph.specs.Links.{links_of}
use Rattle.reasons.specs.Why.{is_sought, first_of}
use Rattle.reasons.proofs.Firsts.{at_has, first_step, some_first, none_first}
use Rattle.reasons.proofs.inputs.first_read.Goals as goal

pub regular_inputs-paths-requires : goal.regular_inputs-paths-requires
regular_inputs-paths-requires c =
    subst (λ (e : ℕ). e < length c.args.graph.now.manifest.lines) (sym {A = ℕ} c.edge-item.is)
    (c.requires.edges _ (at_has c.args.edges.now c.loop-edge.edge-index c.edge-item.result c.loop-edge-test.true))

pub returns-then-is_some : goal.returns-then-is_some
returns-then-is_some c =
    let links = links_of c.args.graph.now in
    let test : ℕ → Bool = λ p. is_sought links c.args.anew.now c.args.looks.now.seen.items c.args.outputs c.args.reason false p in
    let first : List ℕ → Option ℕ = first_of links c.args.anew.now c.args.looks.now.seen.items c.args.outputs c.args.reason false in
    let here : c.first_of-found.result ≡ first (links.regular (get_or c.args.edges.now c.loop-edge.edge-index c.edge-item.result)) =
    c.first_of-found.ensures ∙ (ap first c.regular_inputs-paths.ensures ∙ ap (λ (e : ℕ). first (links.regular e)) c.edge-item.is) in
    let is : is_some c.first_of-found.result ≡ true = search rules in
    here ∙ sym (c.loop-edge.invariant ∙ (first_step test links.regular c.args.edges.now c.loop-edge.edge-index c.edge-item.result c.loop-edge-test.true ∙ some_first _ _ (ap is_some (sym here) ∙ is)))

pub loop-edge-preserved : goal.loop-edge-preserved
loop-edge-preserved c =
    let links = links_of c.args.graph.now in
    let test : ℕ → Bool = λ p. is_sought links c.args.anew.now c.args.looks.now.seen.items c.args.outputs c.args.reason false p in
    let first : List ℕ → Option ℕ = first_of links c.args.anew.now c.args.looks.now.seen.items c.args.outputs c.args.reason false in
    let here : c.first_of-found.result ≡ first (links.regular (get_or c.args.edges.now c.loop-edge.edge-index c.edge-item.result)) =
    c.first_of-found.ensures ∙ (ap first c.regular_inputs-paths.ensures ∙ ap (λ (e : ℕ). first (links.regular e)) c.edge-item.is) in
    let is : is_some c.first_of-found.result ≡ false = search rules in
    c.loop-edge.invariant ∙ (first_step test links.regular c.args.edges.now c.loop-edge.edge-index c.edge-item.result c.loop-edge-test.true ∙ none_first _ _ (ap is_some (sym here) ∙ is))

pub returns : goal.returns
returns c =
    let links = links_of c.args.graph.now in
    let first : List ℕ → Option ℕ = first_of links c.args.anew.now c.args.looks.now.seen.items c.args.outputs c.args.reason false in
    let past : length c.args.edges.now ≤ c.loop-edge.edge-index = omega arith in
    sym (c.loop-edge.invariant ∙ ap (λ (l : List ℕ). first (flat_map links.regular l)) (drop_all c.loop-edge.edge-index c.args.edges.now past))
