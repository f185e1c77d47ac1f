-- Numbers that are mapped to texts.
use Rattle.std.proofs.Common.{◌≡◌, inl, inr, ℕ, ◌==◌, true, List, [], ◌∷◌, bytes_eq, map, refl, subst}
use Rattle.std.proofs.lemmas.Bool.{eqb-true, eq-eqb, or_left, or_right, or_cases, false≢true}
use Rattle.model.specs.Graph.{has, has_number}
use Rattle.theory.proofs.Lists.{same_bytes, bytes_same}

-- a number of a list has its text among those of the list
pub has_mapped : (text : ℕ → List ℕ) (numbers : List ℕ) (n : ℕ) → has_number numbers n ≡ true → has (map text numbers) (text n) ≡ true
has_mapped text [] n h = absurd (false≢true h)
has_mapped text (m ∷ numbers) n h = elim (or_cases (m == n) (has_number numbers n) h) [
  | inl here ↦ or_left (bytes_eq (text m) (text n)) (has (map text numbers) (text n)) (subst (λ (k : ℕ). bytes_eq (text m) (text k) ≡ true) (eqb-true m n here) (bytes_same (text m)))
  | inr later ↦ or_right (bytes_eq (text m) (text n)) (has (map text numbers) (text n)) (has_mapped text numbers n later)
]

-- and each of those is the text of such a number
pub mapped_has : (text : ℕ → List ℕ) (numbers : List ℕ) (p : List ℕ) → has (map text numbers) p ≡ true → (n : ℕ) × (has_number numbers n ≡ true) × (text n ≡ p)
mapped_has text [] p h = absurd (false≢true h)
mapped_has text (n ∷ numbers) p h = elim (or_cases (bytes_eq (text n) p) (has (map text numbers) p) h) [
  | inl here ↦ (n, or_left (n == n) (has_number numbers n) (eq-eqb n n refl), same_bytes (text n) p here)
  | inr later ↦ let rest = mapped_has text numbers p later in (rest.0, or_right (n == rest.0) (has_number numbers rest.0) rest.1, rest.2)
]
