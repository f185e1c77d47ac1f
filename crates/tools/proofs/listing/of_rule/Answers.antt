use Rattle.std.proofs.Common.{◌≡◌, ◌++◌, ℕ, List, length, map, ap, arith, subst, sym, string_bytes, ◌∙◌}
use Rattle.std.specs.List.{flat_map, range_with_len}
use Rattle.std.specs.Map.Iter.{deref}
use Rattle.tools.specs.Answers.{PrintsEach, outputs_of_rule}
use Rattle.tools.proofs.Putting.{flat_counted, if_ok_then}
use Rattle.tools.proofs.listing.of_rule.Goals as goal

pub loop-place-preserved : goal.loop-place-preserved
loop-place-preserved c =
    let told = outputs_of_rule c.args.declared.now c.args.rule.now in
    let place = c.loop-place.place in
    c.in_ok-push_if_of_rule.ensures ∙ (ap (λ (l : List (List ℕ)). l ++ told c.edge.result) c.loop-place.invariant
    ∙ (ap (λ (e : ℕ). flat_map told (range_with_len 0 place) ++ told e) c.edge.ensures ∙ sym (flat_counted told place)))

pub returns : goal.returns
returns c =
    let told = outputs_of_rule c.args.declared.now c.args.rule.now in
    let last : c.loop-place.place ≡ length c.args.declared.now.graph.manifest.lines = omega arith in
    let all : map deref c.loop-place.paths.items ≡ flat_map told (range_with_len 0 (length c.args.declared.now.graph.manifest.lines)) = c.loop-place.invariant ∙ ap (λ (n : ℕ). flat_map told (range_with_len 0 n)) last in
    if_ok_then c.sorted_lines.result c.sorted_lines.ensures (λ text prints. subst (λ (l : List (List ℕ)). PrintsEach l (string_bytes text)) all prints)
