use Rattle.std.proofs.Common.{◌∷◌, ◌++◌, [], ℕ, List, codes, refl, ◌∙◌, subst, string_bytes}
use Rattle.graph.specs.Links.{links_of, users_at}
use Rattle.tools.specs.Answers.{Puts, if_some, maker_lines, outputs_of, path_text, validated_by}
use Rattle.tools.proofs.Putting.{on_ok, one_part, puts_then, two_parts}
use Rattle.tools.proofs.asked_paths.push_path.Goals as goal

pub returns : goal.returns
returns c =
    let declared = c.args.declared.now in
    let path = c.args.path in
    let start = string_bytes c.args.told.now in
    let one = string_bytes c.push_line.new.text in
    let two = string_bytes c.push_if_made.new.told in
    let three = string_bytes c.push_line-2.new.text in
    let four = string_bytes c.push_all_outputs.new.told in
    let five = string_bytes c.push_validated.new.told in
    let head = (path_text declared path ++ codes ":") ∷ [] in
    let maker = maker_lines declared ((links_of declared.graph).maker path) in
    let title = codes "  outputs:" ∷ [] in
    let outputs = outputs_of declared (users_at declared.graph path) in
    let first = two_parts start one c.text_at.result.now (codes ":") (path_text declared path) (codes ":") c.in_ok-push_line.ensures c.text_at.ensures refl in
    let third = one_part two three (codes "  outputs:") (codes "  outputs:") c.in_ok-push_line-2.ensures refl in
    let fourth = subst (λ (l : List ℕ). Puts three four (outputs_of declared l)) c.users_at.ensures c.in_ok-push_all_outputs.ensures in
    on_ok c.push_validated.result
    (λ put.
    let last = if_some (validated_by declared path) (codes "  validation for:" ∷ outputs_of declared (validated_by declared path)) in
    let fifth = subst (λ (l : List ℕ). Puts four five (if_some l (codes "  validation for:" ∷ outputs_of declared l))) (c.as_slice.ensures.value ∙ c.in_ok-validated.ensures) put in
    puts_then start four five (head ++ maker ++ (title ++ outputs)) last
    (puts_then start two four (head ++ maker) (title ++ outputs) (puts_then start one two head maker first c.in_ok-push_if_made.ensures) (puts_then two three four title outputs third fourth)) fifth)
    c.push_validated.ensures
