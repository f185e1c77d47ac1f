use Rattle.std.proofs.Common.{◌∷◌, [], ◌++◌, List, ℕ, sym, ap, ◌∙◌, append_assoc}
use Rattle.std.proofs.lemmas.List.Concat.{flat_map-append}
use Rattle.log_text.specs.Line.{escaped, field_text, field_and_tab}
use Rattle.log_text.proofs.line.push_shared.Goals as goal

pub returns-clause-field : goal.returns-clause-field
returns-clause-field c =
    let line = c.args.line.now.items in
    let front = c.parts.result.0.now in
    let rest = c.parts.result.1.now in
    c.in_ok-push.ensures.items
    ∙ (ap (λ (xs : List ℕ). xs ++ 9 ∷ []) (c.in_ok-push_field-2.ensures ∙ ap (λ (xs : List ℕ). xs ++ field_text rest) c.in_ok-push_field.ensures)
    ∙ (ap (λ (xs : List ℕ). xs ++ 9 ∷ []) (append_assoc line (field_text front) (field_text rest) ∙ ap (λ (xs : List ℕ). line ++ xs) (sym (flat_map-append escaped front rest)))
    ∙ (append_assoc line (field_text (front ++ rest)) (9 ∷ []) ∙ ap (λ (xs : List ℕ). line ++ field_and_tab xs) (sym c.parts.ensures.text))))
