-- What is so of a value that a call gave, and numbers from 1.
use Rattle.std.proofs.Common.{◌≡◌, inl, inr, ◌==◌, ℕ, suc, true, List, [], ◌∷◌, map, Result, Ok, Err, IfOk, refl, ap}
use Rattle.std.proofs.lemmas.Bool.{eqb-true, eq-eqb, or_cases, or_left, false≢true}
use Rattle.model.specs.Graph.{has_number}
use Rattle.theory.proofs.Lists.{has_number-right}

pub if_ok_then : {T E : Type 0} {P Q : T → Type 0} (r : Result T E) → IfOk r P → ((x : T) → P x → Q x) → IfOk r Q
if_ok_then (Ok x) p f = f x p
if_ok_then (Err e) p f = tt

pub if_ok_and : {T E : Type 0} {P Q R : T → Type 0} (r : Result T E) → IfOk r P → IfOk r Q → ((x : T) → P x → Q x → R x) → IfOk r R
if_ok_and (Ok x) p q f = f x p q
if_ok_and (Err e) p q f = tt

pub suc_has : (xs : List ℕ) (i : ℕ) → has_number (map suc xs) i ≡ true → (e : ℕ) × (suc e ≡ i) × (has_number xs e ≡ true)
suc_has [] i h = absurd (false≢true h)
suc_has (x ∷ xs) i h = elim (or_cases (suc x == i) (has_number (map suc xs) i) h) [
  | inl here ↦ (x, eqb-true (suc x) i here, or_left (x == x) (has_number xs x) (eq-eqb x x refl))
  | inr later ↦ let rest = suc_has xs i later in (rest.0, rest.1, has_number-right (x ∷ []) xs rest.0 rest.2)
]

pub map_suc : {B : Type 0} (f : ℕ → B) (xs : List ℕ) → map (λ e. f (suc e)) xs ≡ map f (map suc xs)
map_suc f [] = refl
map_suc f (x ∷ xs) = ap (λ (l : List _). f (suc x) ∷ l) (map_suc f xs)
