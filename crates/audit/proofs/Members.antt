-- What stands in a list, and lists that are put together.
use Rattle.std.proofs.Common.{◌≡◌, ℕ, zero, suc, ◌+◌, ◌≤◌, true, List, [], ◌∷◌, ◌++◌, length, drop, slice_get, Some, None, bytes_eq, refl, ap, arith, add-one}
use Rattle.std.proofs.lemmas.Bool.{or_left, or_right}
use Rattle.std.proofs.lemmas.Slice.Eq.{bytes_eq-Decides}
use Rattle.model.specs.Graph.{has}
use Rattle.trace.specs.declared.fact.Fact.{Fact}
use Rattle.audit.specs.declared.whole.Whole.{Whole}
use Rattle.audit.specs.Standing.{after}
use Rattle.audit.specs.Stood.{Stood}
use Rattle.audit.specs.Wholes.{AreWholeFrom, IsWholeOf}

pub in_has : (paths : List (List ℕ)) (n : ℕ) (p : List ℕ) → slice_get paths n ≡ Some p → has paths p ≡ true
in_has [] n p is = absurd (cc)
in_has (x ∷ xs) zero p is = let same : x ≡ p = cc in or_left (bytes_eq x p) (has xs p) ((bytes_eq-Decides x p).1 same)
in_has (x ∷ xs) (suc n) p is = or_right (bytes_eq x p) (has xs p) (in_has xs n p is)

-- ---- what is left of a list behind a place

next_from : {A : Type 0} (xs : List A) (n : ℕ) (x : A) → slice_get xs n ≡ Some x → drop n xs ≡ x ∷ drop (suc n) xs
next_from [] n x at = absurd (cc)
next_from (y ∷ ys) zero x at = let same : y ≡ x = cc in ap (λ (z : _). z ∷ ys) same
next_from (y ∷ ys) (suc n) x at = next_from ys n x at

pub next : {A : Type 0} (xs : List A) (n : ℕ) (x : A) → slice_get xs n ≡ Some x → drop n xs ≡ x ∷ drop (n + 1) xs
next xs n x at = rw add-one (next_from xs n x at)

pub past : {A : Type 0} (xs : List A) (n : ℕ) → slice_get xs n ≡ None → drop n xs ≡ []
past [] zero at = refl
past [] (suc n) at = refl
past (y ∷ ys) zero at = absurd (cc)
past (y ∷ ys) (suc n) at = past ys n at

pub past_all : {A : Type 0} (xs : List A) (n : ℕ) → length xs ≤ n → drop n xs ≡ []
past_all [] zero at = refl
past_all [] (suc n) at = refl
past_all (y ∷ ys) zero at = absurd (omega (arith, at))
past_all (y ∷ ys) (suc n) at = past_all ys n (omega (arith, at))

-- what is known once all of these were done
abbrev pub after_all : Stood → List Whole → Stood
after_all own [] = own
after_all own (whole ∷ wholes) = after_all (after own whole) wholes

pub after_more : (own : Stood) (wholes : List Whole) (whole : Whole) → after_all own (wholes ++ whole ∷ []) ≡ after (after_all own wholes) whole
after_more own [] whole = refl
after_more own (w ∷ wholes) whole = after_more (after own w) wholes whole

-- one more fact in canonical form
pub one_more : (own old : Stood) (facts : List Fact) (wholes : List Whole) (fact : Fact) (whole : Whole) → AreWholeFrom own old facts wholes → IsWholeOf (after_all own wholes) old fact whole
    → AreWholeFrom own old (facts ++ fact ∷ []) (wholes ++ whole ∷ [])
one_more own old [] [] fact whole all is = (is, tt)
one_more own old [] (w ∷ wholes) fact whole all is = absurd all
one_more own old (f ∷ facts) [] fact whole all is = absurd all
one_more own old (f ∷ facts) (w ∷ wholes) fact whole all is = (all.0, one_more (after own w) old facts wholes fact whole all.1 is)
