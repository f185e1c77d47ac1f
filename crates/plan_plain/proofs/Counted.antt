-- How many numbers below a bound pass a test.
use Rattle.std.proofs.Common.{◌≡◌, inl, inr, ℕ, zero, suc, ◌<◌, ◌==◌, ◌&&◌, ◌||◌, not, cond, filter, Bool, true, false, List, [], ◌∷◌, length, refl, sym, ◌∙◌, ap, subst, arith}
use Rattle.std.proofs.lemmas.Bool.{false≢true, or_left, or_right, eq-eqb, eqb-true, cases_eq, false_from_ne_true, cond-true, cond-false}
use Rattle.model.specs.Graph.{has_number}
use Rattle.theory.proofs.Lists.{has_number-filter}
use Rattle.plan.specs.Steps.{IsOnce}
use Rattle.plan_plain.specs.Scan.{counted}

pub once_filter : (test : ℕ → Bool) (xs : List ℕ) → IsOnce xs → IsOnce (filter test xs)
once_filter test [] once = tt
once_filter test (x ∷ xs) once = by_test (once_filter test xs once.1) (test x) refl
  where
    by_test : IsOnce (filter test xs) → (b : Bool) → test x ≡ b → IsOnce (cond (test x) (x ∷ filter test xs) (filter test xs))
    by_test rest true is =
        subst (λ (l : List ℕ). IsOnce l) (sym (cond-true (test x) (x ∷ filter test xs) (filter test xs) is))
        (has_number-filter test xs x ∙ ap (λ (b : Bool). b && test x) once.0, rest)
    by_test rest false is = subst (λ (l : List ℕ). IsOnce l) (sym (cond-false (test x) (x ∷ filter test xs) (filter test xs) is)) rest

one_more : (s t : Bool) (m n : ℕ) → s ≡ t → m ≡ n → cond s (suc m) m ≡ cond t (suc n) n
one_more s t m n same is = ap (λ (b : Bool). cond b (suc m) m) same ∙ ap (λ (k : ℕ). cond t (suc k) k) is

counted_same : (s t : ℕ → Bool) (n : ℕ) → ((k : ℕ) → k < n → s k ≡ t k) → counted s n ≡ counted t n
counted_same s t zero same = refl
counted_same s t (suc n) same = one_more (s n) (t n) (counted s n) (counted t n) (same n (omega arith)) (counted_same s t n (λ k lt. same k (omega (arith, lt))))

counted_none : (t : ℕ → Bool) (n : ℕ) → ((k : ℕ) → t k ≡ false) → counted t n ≡ 0
counted_none t zero none = refl
counted_none t (suc n) none = one_more (t n) false (counted t n) 0 (none n) (counted_none t n none)

-- all but one number
abbrev but : (ℕ → Bool) → ℕ → ℕ → Bool
but t e k = not (k == e) && t k

but_other : (t : ℕ → Bool) (e k : ℕ) → (k ≡ e → ⊥) → t k ≡ but t e k
but_other t e k other = sym (ap (λ (b : Bool). not b && t k) (false_from_ne_true (k == e) (λ h. other (eqb-true k e h))))

but_here : (t : ℕ → Bool) (e k : ℕ) → k ≡ e → but t e k ≡ false
but_here t e k same = ap (λ (b : Bool). not b && t k) (eq-eqb k e same)

counted_but : (t : ℕ → Bool) (e n : ℕ) → e < n → t e ≡ true → counted t n ≡ suc (counted (but t e) n)
counted_but t e zero lt is = absurd (omega (arith, lt))
counted_but t e (suc n) lt is = elim (cases_eq n e) [
  | inl same ↦
      one_more (t n) true (counted t n) (counted (but t e) n) (ap t same ∙ is) (counted_same t (but t e) n (λ k less. but_other t e k (λ h. omega (arith, same, less, h))))
      ∙ sym (ap suc (one_more (but t e n) false (counted (but t e) n) (counted (but t e) n) (but_here t e n same) refl))
  | inr other ↦
      let rest = counted_but t e n (omega (arith, lt, other)) is in
      one_more (t n) (but t e n) (counted t n) (suc (counted (but t e) n)) (but_other t e n other) rest
      ∙ turn (but t e n) (counted (but t e) n)
]
  where
    turn : (b : Bool) (m : ℕ) → cond b (suc (suc m)) (suc m) ≡ suc (cond b (suc m) m)
    turn true m = refl
    turn false m = refl

-- the numbers that pass are those of a list, each one less than there
pub counted_listed : (t : ℕ → Bool) (n : ℕ) (xs : List ℕ) → IsOnce xs → has_number xs 0 ≡ false → ((e : ℕ) → t e ≡ has_number xs (suc e)) → ((e : ℕ) → t e ≡ true → e < n) → counted t n ≡ length xs
counted_listed t n [] once positive is within = counted_none t n is
counted_listed t n (zero ∷ xs) once positive is within = absurd (false≢true (sym positive))
counted_listed t n (suc e ∷ xs) once positive is within =
    let here : t e ≡ true = is e ∙ or_left (suc e == suc e) (has_number xs (suc e)) (eq-eqb (suc e) (suc e) refl) in
    counted_but t e n (within e here) here
    ∙ ap suc (counted_listed (but t e) n xs once.1 (false_from_ne_true (has_number xs 0) (λ h. false≢true (sym positive ∙ or_right (suc e == 0) (has_number xs 0) h)))
    (λ k. elim (cases_eq k e) [
      | inl same ↦ but_here t e k same ∙ sym (ap (λ (m : ℕ). has_number xs (suc m)) same ∙ once.0)
      | inr other ↦ sym (but_other t e k other) ∙ (is k ∙ ap (λ (b : Bool). b || has_number xs (suc k)) (false_from_ne_true (suc e == suc k) (λ h. other (omega (arith, eqb-true (suc e) (suc k) h)))))
    ])
    (λ k passes. within k (passes_too k passes)))
  where
    passes_too : (k : ℕ) → but t e k ≡ true → t k ≡ true
    passes_too k passes = by (not (k == e)) (t k) passes
      where
        by : (a b : Bool) → (a && b) ≡ true → b ≡ true
        by true b h = h
        by false b h = absurd (false≢true h)
