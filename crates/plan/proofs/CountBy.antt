-- What one more write changes in a count.
use Rattle.std.proofs.Common.{◌≡◌, inl, inr, ℕ, suc, ◌+◌, ◌<◌, ◌≤◌, cond, Bool, true, false, List, [], ◌∷◌, length, get_or, count_by, refl, ap, arith}
use Rattle.std.proofs.Math.ListN.{set}
use Rattle.std.proofs.lemmas.List.Sums.{sum_by-set, sum_by-cons, sum_by_more_le}
use Rattle.std.proofs.lemmas.Bool.{cases_Bool}

abbrev one_if : Bool → ℕ
one_if b = cond b 1 0

pub count_loses : {X : Type 0} (p : X → Bool) (xs : List X) (i : ℕ) (y d : X) → i < length xs → p (get_or xs i d) ≡ true → p y ≡ false → count_by p (set xs i y) + 1 ≡ count_by p xs
count_loses {X = X} p xs i y d lt was is =
    let e = sum_by-set (λ (x : X). one_if (p x)) xs i y d lt in
    let a : one_if (p (get_or xs i d)) ≡ 1 = ap one_if was in
    let b : one_if (p y) ≡ 0 = ap one_if is in
    omega (arith, e, a, b)

pub count_keeps : {X : Type 0} (p : X → Bool) (xs : List X) (i : ℕ) (y d : X) → i < length xs → p y ≡ p (get_or xs i d) → count_by p (set xs i y) ≡ count_by p xs
count_keeps {X = X} p xs i y d lt same =
    let e = sum_by-set (λ (x : X). one_if (p x)) xs i y d lt in
    let a : one_if (p y) ≡ one_if (p (get_or xs i d)) = ap one_if same in
    omega (arith, e, a)

pub count_none : {X : Type 0} (p : X → Bool) (xs : List X) (i : ℕ) (d : X) → i < length xs → count_by p xs ≡ 0 → p (get_or xs i d) ≡ false
count_none {X = X} p xs i d lt none = by_test (p (get_or xs i d)) (omega (arith, sum_by_more_le (λ (x : X). one_if (p x)) xs i d lt, none))
  where
    by_test : (b : Bool) → one_if b ≤ 0 → b ≡ false
    by_test false h = refl
    by_test true h = absurd (omega (arith, h))

pub count_some : {X : Type 0} (p : X → Bool) (xs : List X) (d : X) → 0 < count_by p xs → (i : ℕ) × (i < length xs) × (p (get_or xs i d) ≡ true)
count_some {X = X} p [] d some = absurd (omega (arith, some))
count_some {X = X} p (x ∷ xs) d some = elim (cases_Bool (p x)) [
  | inl is ↦ (0, omega arith, is)
  | inr not ↦
      let e : count_by p (x ∷ xs) ≡ one_if (p x) + count_by p xs = sum_by-cons (λ (y : X). one_if (p y)) x xs in
      let z : one_if (p x) ≡ 0 = ap one_if not in
      let more = count_some p xs d (omega (arith, e, z, some)) in
      (suc more.0, omega (arith, more.1), more.2)
]
