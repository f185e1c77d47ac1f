use Rattle.std.proofs.Common.{[], ℕ, List, filter, is_none, map, sym, ap, ◌∙◌, subst, string_bytes}
use Rattle.std.specs.List.{flat_map, range_with_len}
use Rattle.std.proofs.lemmas.List.{map-append}
use Rattle.graph.specs.Links.{links_of}
use Rattle.tools.specs.Answers.{Puts, path_text}
use Rattle.tools.proofs.Putting.{filter-append, flat_counted, puts_then}
use Rattle.tools.proofs.listing.sources.Goals as goal

pub loop-place-preserved : goal.loop-place-preserved
loop-place-preserved c =
    let declared = c.args.declared.now in
    let links = links_of declared.graph in
    let test = λ (p : ℕ). is_none (links.maker p) in
    let place = c.loop-place.place in
    let before = flat_map links.inputs (range_with_len 0 place) in
    let old = string_bytes c.loop-place.told in
    let new = string_bytes c.push_sources.new.told in
    let told = λ (l : List ℕ). map (path_text declared) (filter test l) in
    let more = ap told (flat_counted links.inputs place) ∙ (ap (map (path_text declared)) (filter-append test before (links.inputs place)) ∙ map-append (path_text declared) (filter test before) (filter test (links.inputs place))) in
    let one = subst (λ (l : List ℕ). Puts old new (told l)) (c.inputs.ensures ∙ ap links.inputs c.edge.ensures) c.in_ok-push_sources.ensures in
    subst (Puts [] new) (sym more) (puts_then [] old new (told before) (told (links.inputs place)) c.loop-place.invariant one)
