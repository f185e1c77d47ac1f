-- Lists of numbers, and the texts that they stand for.
use Rattle.std.proofs.Common.{◌≡◌, ◌⊎◌, inl, inr, ℕ, zero, suc, ◌<◌, ◌==◌, Bool, true, List, [], ◌∷◌, Option, Some, None, IfSome, Result, Ok, Err, IfOk, map, get_or, length, refl, sym, ◌∙◌, ap, arith, subst}
use Rattle.std.specs.List.{list_any}
use Rattle.std.proofs.lemmas.Bool.{eqb-true, eq-eqb, or_cases, or_left, or_right, false≢true, cases_Bool}
use Rattle.model.specs.Graph.{has, has_number}
use Rattle.theory.proofs.Mapped.{has_mapped, mapped_has}
use Rattle.paths.specs.Told.{text_at, texts_at}

pub if_ok_then : {T E : Type 0} {P Q : T → Type 0} (r : Result T E) → IfOk r P → ((x : T) → P x → Q x) → IfOk r Q
if_ok_then (Ok x) p f = f x p
if_ok_then (Err e) p f = tt

pub if_some_so : {A : Type 0} {P : Type 0} → (o : Option A) → P → IfSome o (λ x. P)
if_some_so None p = tt
if_some_so (Some x) p = p

pub same_or_other : (i j : ℕ) → (j ≡ i) ⊎ (j ≡ i → ⊥)
same_or_other i j = elim (cases_Bool (j == i)) [
  | inl is ↦ inl (eqb-true j i is)
  | inr not ↦ inr (λ is. false≢true (sym not ∙ eq-eqb j i is))
]

-- ---- the numbers of a list

pub has_here : (x : ℕ) (xs : List ℕ) → has_number (x ∷ xs) x ≡ true
has_here x xs = or_left (x == x) (has_number xs x) (eq-eqb x x refl)

pub at_has : (xs : List ℕ) (k d : ℕ) → k < length xs → has_number xs (get_or xs k d) ≡ true
at_has [] k d lt = absurd (omega (arith, lt))
at_has (x ∷ xs) zero d lt = has_here x xs
at_has (x ∷ xs) (suc k) d lt = or_right (x == get_or xs k d) (has_number xs (get_or xs k d)) (at_has xs k d (omega (arith, lt)))

pub within_by : (n : ℕ) (xs ys : List ℕ) → ys ≡ xs → ((p : ℕ) → has_number xs p ≡ true → p < n) → (k d : ℕ) → k < length ys → get_or ys k d < n
within_by n xs ys same each k d lt = each (get_or ys k d) (subst (λ (l : List ℕ). has_number l (get_or ys k d) ≡ true) same (at_has ys k d lt))

-- what holds at each place holds of each number
pub all_of : (P : ℕ → Type 0) (xs : List ℕ) → ((k d : ℕ) → k < length xs → P (get_or xs k d)) → (n : ℕ) → has_number xs n ≡ true → P n
all_of P [] each n h = absurd (false≢true h)
all_of P (x ∷ xs) each n h = elim (or_cases (x == n) (has_number xs n) h) [
  | inl here ↦ subst P (eqb-true x n here) (each zero x (omega arith))
  | inr later ↦ all_of P xs (λ k d lt. each (suc k) d (omega (arith, lt))) n later
]

pub has_suc : (xs : List ℕ) (e : ℕ) → has_number xs e ≡ true → has_number (map suc xs) (suc e) ≡ true
has_suc [] e h = absurd (false≢true h)
has_suc (x ∷ xs) e h = elim (or_cases (x == e) (has_number xs e) h) [
  | inl here ↦ or_left (suc x == suc e) (has_number (map suc xs) (suc e)) (eq-eqb (suc x) (suc e) (ap suc (eqb-true x e here)))
  | inr later ↦ or_right (suc x == suc e) (has_number (map suc xs) (suc e)) (has_suc xs e later)
]

pub suc_has : (xs : List ℕ) (i : ℕ) → has_number (map suc xs) i ≡ true → (e : ℕ) × (suc e ≡ i) × (has_number xs e ≡ true)
suc_has [] i h = absurd (false≢true h)
suc_has (x ∷ xs) i h = elim (or_cases (suc x == i) (has_number (map suc xs) i) h) [
  | inl here ↦ (x, eqb-true (suc x) i here, has_here x xs)
  | inr later ↦ let rest = suc_has xs i later in (rest.0, rest.1, or_right (x == rest.0) (has_number xs rest.0) rest.2)
]

-- ---- the texts of numbers

pub has_text : (paths : List (List ℕ)) (numbers : List ℕ) (n : ℕ) → has_number numbers n ≡ true → has (texts_at paths numbers) (text_at paths n) ≡ true
has_text paths numbers n h = has_mapped (text_at paths) numbers n h

pub number_of : (paths : List (List ℕ)) (numbers : List ℕ) (p : List ℕ) → has (texts_at paths numbers) p ≡ true → (n : ℕ) × (has_number numbers n ≡ true) × (text_at paths n ≡ p)
number_of paths numbers p h = mapped_has (text_at paths) numbers p h

-- ---- whether one passes a test

pub any_number : (test : ℕ → Bool) (xs : List ℕ) → list_any test xs ≡ true → (n : ℕ) × (has_number xs n ≡ true) × (test n ≡ true)
any_number test [] h = absurd (false≢true h)
any_number test (x ∷ xs) h = elim (or_cases (test x) (list_any test xs) h) [
  | inl here ↦ (x, has_here x xs, here)
  | inr there ↦ let rest = any_number test xs there in (rest.0, or_right (x == rest.0) (has_number xs rest.0) rest.1, rest.2)
]

pub number_any : (test : ℕ → Bool) (xs : List ℕ) (n : ℕ) → has_number xs n ≡ true → test n ≡ true → list_any test xs ≡ true
number_any test [] n h is = absurd (false≢true h)
number_any test (x ∷ xs) n h is = elim (or_cases (x == n) (has_number xs n) h) [
  | inl here ↦ or_left (test x) (list_any test xs) (ap test (eqb-true x n here) ∙ is)
  | inr there ↦ or_right (test x) (list_any test xs) (number_any test xs n there is)
]
