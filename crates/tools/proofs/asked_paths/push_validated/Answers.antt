use Rattle.std.proofs.Common.{◌≡◌, ◌∷◌, [], ℕ, List, codes, length, refl, sym, ap, ◌∙◌, subst, string_bytes}
use Rattle.std.proofs.lemmas.Bool.{eqb-true, eq-eqb, false≢true}
use Rattle.tools.specs.Answers.{Puts, if_some, outputs_of}
use Rattle.tools.proofs.Putting.{if_some_all, if_some_none, on_ok, one_part, puts_none, puts_then}
use Rattle.tools.proofs.asked_paths.push_validated.Goals as goal

pub returns-then-is_empty : goal.returns-then-is_empty
returns-then-is_empty c =
    let told = string_bytes c.args.told.now in
    let none : length c.args.edges.now ≡ 0 = eqb-true _ 0 (sym c.is_empty.ensures ∙ c.if-is_empty.true) in
    subst (Puts told told) (sym (if_some_none c.args.edges.now (codes "  validation for:" ∷ outputs_of c.args.declared.now c.args.edges.now) none)) (puts_none told)

pub returns : goal.returns
returns c =
    let edges = c.args.edges.now in
    let start = string_bytes c.args.told.now in
    let mid = string_bytes c.push_line.new.text in
    let new = string_bytes c.push_all_outputs.new.told in
    let rest = outputs_of c.args.declared.now edges in
    let some = λ (none : length edges ≡ 0). false≢true (sym c.if-is_empty.false ∙ (c.is_empty.ensures ∙ eq-eqb (length edges) 0 none)) in
    let first = one_part start mid (codes "  validation for:") (codes "  validation for:") c.in_ok-push_line.ensures refl in
    on_ok c.push_all_outputs.result
    (λ put. subst (Puts start new) (sym (if_some_all edges (codes "  validation for:" ∷ rest) some)) (puts_then start mid new (codes "  validation for:" ∷ []) rest first put))
    c.push_all_outputs.ensures
