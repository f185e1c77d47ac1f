use Rattle.std.proofs.Common.{[], ℕ, List, map, sym, subst, string_bytes}
use Rattle.std.specs.List.{flat_map, range_with_len}
use Rattle.graph.specs.Links.{links_of}
use Rattle.tools.specs.Answers.{Puts, with_rule}
use Rattle.tools.proofs.Putting.{flat_counted, puts_then}
use Rattle.tools.proofs.listing.all.Goals as goal

pub loop-place-preserved : goal.loop-place-preserved
loop-place-preserved c =
    let declared = c.args.declared.now in
    let told = λ (e : ℕ). map (with_rule declared e) ((links_of declared.graph).outputs e) in
    let place = c.loop-place.place in
    let old = string_bytes c.loop-place.told in
    let new = string_bytes c.push_outputs.new.told in
    subst (Puts [] new) (sym (flat_counted told place))
    (puts_then [] old new (flat_map told (range_with_len 0 place)) (told place) c.loop-place.invariant (subst (λ (e : ℕ). Puts old new (told e)) c.edge.ensures c.in_ok-push_outputs.ensures))
