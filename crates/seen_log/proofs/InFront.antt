-- A plain text in front of a tab.
use Rattle.std.proofs.Common.{◌≡◌, ◌≢◌, ℕ, List, [], ◌∷◌, ◌++◌, refl, sym, ap, ◌∙◌, append_assoc, arith}
use Rattle.std.proofs.lemmas.Bool.Decides.{nat_tests}
use Rattle.text.specs.Marks.{Lacks}
use Rattle.log_text.specs.Line.{escaped, field_text, field_and_tab, IsPlain}

escaped-plain : (b : ℕ) → b ≢ 92 → b ≢ 9 → b ≢ 10 → escaped b ≡ b ∷ []
escaped-plain b x y z = grind (arith, nat_tests)

field_text-plain : (text : List ℕ) → Lacks 92 text → Lacks 9 text → Lacks 10 text → field_text text ≡ text
field_text-plain [] x y z = refl
field_text-plain (b ∷ text) x y z = rw (escaped-plain b x.0 y.0 z.0, field_text-plain text x.1 y.1 z.1) refl

-- a plain text and a tab are its field and the tab
pub field_in_front : (text after : List ℕ) → IsPlain text → text ++ 9 ∷ after ≡ field_and_tab text ++ after
field_in_front text after plain =
    sym (append_assoc text (9 ∷ []) after) ∙ ap (λ (l : List ℕ). (l ++ 9 ∷ []) ++ after) (sym (field_text-plain text plain.0 plain.1 plain.2))
