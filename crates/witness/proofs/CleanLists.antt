-- Lists of numbers and of paths.
use Rattle.std.proofs.Common.{◌≡◌, inl, inr, ℕ, zero, suc, ◌<◌, ◌≤◌, ◌==◌, ◌||◌, not, length, true, false, List, [], ◌∷◌, ◌++◌, Option, Some, None, refl, sym, ◌∙◌, ap, subst, bytes_eq, arith}
use Rattle.std.specs.Prelude.{filter}
use Rattle.std.specs.List.{AllByRecursion}
use Rattle.std.proofs.lemmas.Bool.{eqb-true, eq-eqb, or_cases, or_left, or_right, false≢true, cases_Bool}
use Rattle.std.proofs.lemmas.Slice.Eq.{bytes_eq-Decides}
use Rattle.model.specs.declared.graph.Edge.{Edge}
use Rattle.model.specs.Graph.{has, has_number, edge_at, maker, later_number, outputs}

pub same_bytes : (p q : List ℕ) → bytes_eq p q ≡ true → p ≡ q
same_bytes p q is = (bytes_eq-Decides p q).0 is

pub bytes_same : (p : List ℕ) → bytes_eq p p ≡ true
bytes_same p = (bytes_eq-Decides p p).1 refl

-- what holds of each path that is one of these holds of all
pub all_from_has : (P : List ℕ → Type 0) (ps : List (List ℕ)) → ((p : List ℕ) → has ps p ≡ true → P p) → AllByRecursion P ps
all_from_has P [] each = tt
all_from_has P (q ∷ ps) each =
    (each q (or_left (bytes_eq q q) (has ps q) (bytes_same q)), all_from_has P ps (λ p h. each p (or_right (bytes_eq q p) (has ps p) h)))

pub has_from_all : (P : List ℕ → Type 0) (ps : List (List ℕ)) (p : List ℕ) → AllByRecursion P ps → has ps p ≡ true → P p
has_from_all P [] p all h = absurd (false≢true h)
has_from_all P (q ∷ ps) p all h = elim (or_cases (bytes_eq q p) (has ps p) h) [
  | inl here ↦ subst P (same_bytes q p here) all.0
  | inr there ↦ has_from_all P ps p all.1 there
]

pub has-left : (xs ys : List (List ℕ)) (p : List ℕ) → has xs p ≡ true → has (xs ++ ys) p ≡ true
has-left [] ys p h = absurd (false≢true h)
has-left (x ∷ xs) ys p h = elim (or_cases (bytes_eq x p) (has xs p) h) [
  | inl here ↦ or_left (bytes_eq x p) (has (xs ++ ys) p) here
  | inr there ↦ or_right (bytes_eq x p) (has (xs ++ ys) p) (has-left xs ys p there)
]

pub has_append : (xs ys : List (List ℕ)) (p : List ℕ) → has (xs ++ ys) p ≡ (has xs p || has ys p)
has_append [] ys p = refl
has_append (x ∷ xs) ys p = elim (cases_Bool (bytes_eq x p)) [
  | inl here ↦ rw here refl
  | inr other ↦ rw other (has_append xs ys p)
]

pub has-nil : (xs : List (List ℕ)) (p : List ℕ) → has (xs ++ []) p ≡ true → has xs p ≡ true
has-nil [] p h = h
has-nil (x ∷ xs) p h = elim (or_cases (bytes_eq x p) (has (xs ++ []) p) h) [
  | inl here ↦ or_left (bytes_eq x p) (has xs p) here
  | inr there ↦ or_right (bytes_eq x p) (has xs p) (has-nil xs p there)
]

-- the numbers without i
abbrev pub without : ℕ → List ℕ → List ℕ
without i xs = filter (λ j. not (j == i)) xs

pub without-shorter : (i : ℕ) (xs : List ℕ) → length (without i xs) ≤ length xs
without-shorter i [] = omega arith
without-shorter i (x ∷ xs) = elim (cases_Bool (x == i)) [
  | inl same ↦ let rest = without-shorter i xs in let is : not (x == i) ≡ false = ap not same in rw is (omega (arith, rest))
  | inr other ↦ let rest = without-shorter i xs in let is : not (x == i) ≡ true = ap not other in rw is (omega (arith, rest))
]

pub without-less : (i : ℕ) (xs : List ℕ) → has_number xs i ≡ true → length (without i xs) < length xs
without-less i [] h = absurd (false≢true h)
without-less i (x ∷ xs) h = elim (cases_Bool (x == i)) [
  | inl same ↦ let rest = without-shorter i xs in let is : not (x == i) ≡ false = ap not same in rw is (omega (arith, rest))
  | inr other ↦
      let there : has_number xs i ≡ true = rw other at h in
      let rest = without-less i xs there in
      let is : not (x == i) ≡ true = ap not other in rw is (omega (arith, rest))
]

pub without-has : (i j : ℕ) (xs : List ℕ) → (i ≡ j → ⊥) → has_number xs j ≡ true → has_number (without i xs) j ≡ true
without-has i j [] other h = absurd (false≢true h)
without-has i j (x ∷ xs) other h = elim (cases_Bool (x == i)) [
  | inl same ↦
      let is : not (x == i) ≡ false = ap not same in
      rw is (elim (or_cases (x == j) (has_number xs j) h) [
        | inl here ↦ absurd (other (sym (eqb-true x i same) ∙ eqb-true x j here))
        | inr there ↦ without-has i j xs other there
      ])
  | inr differs ↦
      let is : not (x == i) ≡ true = ap not differs in
      rw is (elim (or_cases (x == j) (has_number xs j) h) [
        | inl here ↦ or_left (x == j) (has_number (without i xs) j) here
        | inr there ↦ or_right (x == j) (has_number (without i xs) j) (without-has i j xs other there)
      ])
]

-- n and all below it, down to 1
abbrev pub down_from : ℕ → List ℕ
down_from zero = []
down_from (suc n) = suc n ∷ down_from n

pub down_from-length : (n : ℕ) → length (down_from n) ≡ n
down_from-length zero = refl
down_from-length (suc n) = ap suc (down_from-length n)

pub down_from-has : (n i : ℕ) → 1 ≤ i → i ≤ n → has_number (down_from n) i ≡ true
down_from-has zero i low high = absurd (omega arith)
down_from-has (suc n) i low high = elim (cases_Bool (suc n == i)) [
  | inl here ↦ or_left (suc n == i) (has_number (down_from n) i) here
  | inr other ↦
      let ne : suc n ≡ i → ⊥ = λ e. false≢true (sym other ∙ eq-eqb (suc n) i e) in
      let le : i ≤ n = omega arith in
      or_right (suc n == i) (has_number (down_from n) i) (down_from-has n i low le)
]

-- ---- makers

later_has : (es : List Edge) (e : Edge) (p : List ℕ) (m : Option ℕ) (i : ℕ)
    → ((k : ℕ) → m ≡ Some k → (1 ≤ k) × (k ≤ length es) × (has (outputs (edge_at es k)) p ≡ true))
    → later_number m ≡ Some i → (1 ≤ i) × (i ≤ suc (length es)) × (has (outputs (edge_at (e ∷ es) i)) p ≡ true)
later_has es e p None i rest is = cc
later_has es e p (Some zero) i rest is = absurd (let bad = (rest zero refl).0 in omega (arith, bad))
later_has es e p (Some (suc k)) i rest is =
    let next : suc (suc k) ≡ i = cc in
    let le = (rest (suc k) refl).1 in
    subst (λ (n : ℕ). (1 ≤ n) × (n ≤ suc (length es)) × (has (outputs (edge_at (e ∷ es) n)) p ≡ true)) next (omega arith, omega (arith, le), (rest (suc k) refl).2)

-- the maker of a path is an edge of the list, and has the path among its outputs
pub maker_has : (es : List Edge) (p : List ℕ) (i : ℕ) → maker es p ≡ Some i → (1 ≤ i) × (i ≤ length es) × (has (outputs (edge_at es i)) p ≡ true)
maker_has [] p i is = cc
maker_has (e ∷ es) p i is = elim (cases_Bool (has (outputs e) p)) [
  | inl here ↦
      let first : Some 1 ≡ Some i = rw here at is in
      let one : 1 ≡ i = cc in
      subst (λ (n : ℕ). (1 ≤ n) × (n ≤ suc (length es)) × (has (outputs (edge_at (e ∷ es) n)) p ≡ true)) one (omega arith, omega arith, here)
  | inr below ↦
      let rest : later_number (maker es p) ≡ Some i = rw below at is in
      later_has es e p (maker es p) i (λ k was. maker_has es p k was) rest
]
