-- Lists of numbers, up to a place.
use Rattle.std.proofs.Common.{◌≡◌, ◌⊎◌, inl, inr, ℕ, zero, suc, ◌+◌, ◌<◌, ◌==◌, true, false, List, [], ◌∷◌, ◌++◌, get_or, length, take, refl, sym, ◌∙◌, ap, arith}
use Rattle.std.proofs.lemmas.Bool.{eqb-true, eq-eqb, false≢true, cases_Bool, or_left, or_right}
use Rattle.std.proofs.lemmas.List.{take_more}
use Rattle.model.specs.Graph.{has_number}
use Rattle.theory.proofs.Lists.{has_number-left, has_number-push, has_number-push_cases}

pub same_or_other : (i j : ℕ) → (j ≡ i) ⊎ (j ≡ i → ⊥)
same_or_other i j = elim (cases_Bool (j == i)) [
  | inl is ↦ inl (eqb-true j i is)
  | inr not ↦ inr (λ is. false≢true (sym not ∙ eq-eqb j i is))
]

-- ---- the numbers up to a place

module _ (xs : List ℕ) (k d : ℕ) (lt : k < length xs) (p : ℕ) where
  pub there_before : has_number (take (k + 1) xs) p ≡ true → (p ≡ get_or xs k d → ⊥) → has_number (take k xs) p ≡ true
  there_before h other = elim (has_number-push_cases (take k xs) (get_or xs k d) p (sym (ap (λ (l : List ℕ). has_number l p) (take_more xs k d lt)) ∙ h)) [
    | inl before ↦ before
    | inr here ↦ absurd (other (sym here))
  ]

  pub not_there : has_number (take (k + 1) xs) p ≡ false → (has_number (take k xs) p ≡ false) × (p ≡ get_or xs k d → ⊥)
  not_there none = (
    elim (cases_Bool (has_number (take k xs) p)) [
      | inl before ↦ absurd (false≢true (sym pushed ∙ has_number-left (take k xs) (get_or xs k d ∷ []) p before))
      | inr not ↦ not
    ],
    (λ is. false≢true (sym pushed ∙ (ap (has_number (take k xs ++ get_or xs k d ∷ [])) is ∙ has_number-push (take k xs) (get_or xs k d)))),
  )
    where
      pushed : has_number (take k xs ++ get_or xs k d ∷ []) p ≡ false
      pushed = sym (ap (λ (l : List ℕ). has_number l p) (take_more xs k d lt)) ∙ none

  -- the last of so many is the one at this place
  pub there_last : has_number (take (k + 1) xs) p ≡ true → (has_number (take k xs) p ≡ true) ⊎ (p ≡ get_or xs k d)
  there_last h = elim (has_number-push_cases (take k xs) (get_or xs k d) p (sym (ap (λ (l : List ℕ). has_number l p) (take_more xs k d lt)) ∙ h)) [
    | inl before ↦ inl before
    | inr here ↦ inr (sym here)
  ]

pub item_has : (xs : List ℕ) (k d : ℕ) → k < length xs → has_number xs (get_or xs k d) ≡ true
item_has [] k d lt = absurd (omega (arith, lt))
item_has (x ∷ xs) zero d lt = or_left (x == x) (has_number xs x) (eq-eqb x x refl)
item_has (x ∷ xs) (suc k) d lt = or_right (x == get_or xs k d) (has_number xs (get_or xs k d)) (item_has xs k d (omega (arith, lt)))
