use Rattle.std.proofs.Common.{◌≡◌, ◌∷◌, [], ◌++◌, List, ℕ, sym, ap, ◌∙◌, subst, append_assoc, rules}
use Rattle.std.proofs.lemmas.List.Concat.{flat_map-append}
use Rattle.text.specs.Marks.{Lacks}
use Rattle.log_text.specs.Line.{IsPlain, escaped, field_text, field_and_tab}
use Rattle.log_text.proofs.Bytes.{Lacks-back}
use Rattle.log_text.proofs.Escapes.{field_text-plain}
use Rattle.log_text.proofs.sharing.behind_plain.Goals as goal

-- the field of a text in two parts, and what stands behind it
joined : (front rest after : List ℕ) → field_text front ++ (field_and_tab rest ++ after) ≡ field_and_tab (front ++ rest) ++ after
joined front rest after =
    sym (append_assoc (field_text front) (field_and_tab rest) after)
    ∙ ap (λ (xs : List ℕ). xs ++ after) (sym (append_assoc (field_text front) (field_text rest) (9 ∷ [])) ∙ ap (λ (xs : List ℕ). xs ++ 9 ∷ []) (sym (flat_map-append escaped front rest)))

pub returns-clause-text : goal.returns-clause-text
returns-clause-text c =
    let front = c.parts.result.0.now in
    let rest = c.parts.result.1.now in
    let told = c.in_ok-told.told.now in
    let after = c.in_ok-after.after.now in
    let plain : IsPlain front = search rules in (
      c.in_ok-told.ensures.found
          ∙ (ap (λ (xs : List ℕ). xs ++ told) c.as_bytes.ensures.value
          ∙ (ap (λ (xs : List ℕ). front ++ xs) c.in_ok-after.ensures.found
          ∙ (ap (λ (xs : List ℕ). xs ++ (field_and_tab rest ++ after)) (sym (field_text-plain front plain.0 plain.1 plain.2))
          ∙ (joined front rest after ∙ ap (λ (xs : List ℕ). field_and_tab xs ++ after) (sym c.parts.ensures.text))))),
      c.parts.ensures.utf8,
    )

-- what stands behind lacks line feeds, as all of it does
pub returns-clause-line_feed : goal.returns-clause-line_feed
returns-clause-line_feed c =
    let told = subst (Lacks 10) (c.in_ok-told.ensures.found ∙ ap (λ (xs : List ℕ). xs ++ c.in_ok-told.told.now) c.as_bytes.ensures.value) c.requires in
    Lacks-back 10 (field_and_tab c.parts.result.1.now) c.in_ok-after.after.now (subst (Lacks 10) c.in_ok-after.ensures.found (Lacks-back 10 c.parts.result.0.now c.in_ok-told.told.now told))
