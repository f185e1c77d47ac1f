-- A value at several places.
use Rattle.std.proofs.Common.{◌≡◌, ◌<◌, ◌≤◌, ℕ, zero, suc, Bool, true, false, cond, ◌||◌, ◌⊎◌, eqb, List, [], ◌∷◌, ◌++◌, length, set, Option, Some, slice_get, refl, sym, ap, ◌∙◌, inl, inr, arith}
use Rattle.std.proofs.lemmas.Bool.{cases_Bool, eqb-true, ne_eqb, eq-eqb}
use Rattle.model.specs.Graph.{has_number}
use Rattle.log_text.specs.Kept.{joined}
use Rattle.log_text.specs.Steps.{IsFilled}

has_number-push : (ps : List ℕ) (p n : ℕ) → has_number (ps ++ p ∷ []) n ≡ (has_number ps n || eqb p n)
has_number-push [] p n = go (eqb p n)
  where
    go : (b : Bool) → (b || false) ≡ b
    go true = refl
    go false = refl
has_number-push (x ∷ ps) p n = ap (λ (b : Bool). eqb x n || b) (has_number-push ps p n) ∙ go (eqb x n)
  where
    go : (b : Bool) → (b || (has_number ps n || eqb p n)) ≡ ((b || has_number ps n) || eqb p n)
    go true = refl
    go false = refl

length_set : (xs : List (Option ℕ)) (i : ℕ) (x : Option ℕ) → length (set xs i x) ≡ length xs
length_set [] i x = refl
length_set (y ∷ xs) zero x = refl
length_set (y ∷ xs) (suc i) x = ap suc (length_set xs i x)

get_set : (xs : List (Option ℕ)) (i n : ℕ) (x : Option ℕ) → i < length xs → joined (slice_get (set xs i x) n) ≡ cond (eqb i n) x (joined (slice_get xs n))
get_set [] i n x lt = absurd (omega arith)
get_set (y ∷ xs) zero zero x lt = refl
get_set (y ∷ xs) zero (suc n) x lt = sym (ap (λ (b : Bool). cond b x (joined (slice_get xs n))) (ne_eqb 0 (suc n) (λ (e : 0 ≡ suc n). absurd (omega arith))))
get_set (y ∷ xs) (suc i) zero x lt = sym (ap (λ (b : Bool). cond b x (joined (Some y))) (ne_eqb (suc i) 0 (λ (e : suc i ≡ 0). absurd (omega arith))))
get_set (y ∷ xs) (suc i) (suc n) x lt = get_set xs i n x (omega arith) ∙ ap (λ (b : Bool). cond b x (joined (slice_get xs n))) (go (cases_Bool (eqb i n)))
  where
    go : (eqb i n ≡ true) ⊎ (eqb i n ≡ false) → eqb i n ≡ eqb (suc i) (suc n)
    go (inl e) = e ∙ sym (eq-eqb (suc i) (suc n) (ap suc (eqb-true i n e)))
    go (inr e) = e ∙ sym (ne_eqb (suc i) (suc n) (λ f. let same : i ≡ n = omega arith in let clash : true ≡ false = sym (eq-eqb i n same) ∙ e in cc))

pub filled_more : (old : List (Option ℕ)) (ps : List ℕ) (value : Option ℕ) (mid : List (Option ℕ)) (p : ℕ) → IsFilled old ps value mid → p < length mid → IsFilled old (ps ++ p ∷ []) value (set mid p value)
filled_more old ps value mid p filled lt = record {
  len = length_set mid p value ∙ filled.len;
  at = λ n below.
      get_set mid p n value lt
      ∙ (ap (λ (x : Option ℕ). cond (eqb p n) value x) (filled.at n below)
      ∙ (go (eqb p n) (has_number ps n) (joined (slice_get old n))
      ∙ ap (λ (b : Bool). cond b value (joined (slice_get old n))) (sym (has_number-push ps p n))));
}
  where
    go : (a b : Bool) (x : Option ℕ) → cond a value (cond b value x) ≡ cond (b || a) value x
    go true true x = refl
    go true false x = refl
    go false true x = refl
    go false false x = refl

-- a place past the end
pub filled_past : (old : List (Option ℕ)) (ps : List ℕ) (value : Option ℕ) (mid : List (Option ℕ)) (p : ℕ) → IsFilled old ps value mid → length mid ≤ p → IsFilled old (ps ++ p ∷ []) value mid
filled_past old ps value mid p filled le = record {
  len = filled.len;
  at = λ n below.
      let other : eqb p n ≡ false = ne_eqb p n (λ e. let len = filled.len in absurd (omega arith)) in
      filled.at n below ∙ ap (λ (b : Bool). cond b value (joined (slice_get old n))) (sym (has_number-push ps p n ∙ (ap (λ (b : Bool). has_number ps n || b) other ∙ go (has_number ps n))));
}
  where
    go : (b : Bool) → (b || false) ≡ b
    go true = refl
    go false = refl
