-- The first item of a list that passes a test, one item after another.
use Rattle.std.proofs.Common.{◌≡◌, ◌⊎◌, ℕ, zero, suc, ◌+◌, ◌<◌, ◌≤◌, ◌==◌, ◌||◌, cond, Bool, true, false, List, [], ◌∷◌, ◌++◌, Option, Some, None, is_some, get_or, drop, length, refl, sym, ◌∙◌, ap, arith}
use Rattle.std.specs.Prelude.{find}
use Rattle.std.specs.List.{flat_map}
use Rattle.std.specs.Option.{option_or}
use Rattle.std.proofs.lemmas.Bool.{eq-eqb, or_left, or_right, false≢true}
use Rattle.std.proofs.lemmas.List.{drop_more}
use Rattle.std.proofs.lemmas.List.Folds.{find-append}
use Rattle.model.specs.Graph.{has_number}

-- ---- the numbers of a list

pub at_has : (xs : List ℕ) (k d : ℕ) → k < length xs → has_number xs (get_or xs k d) ≡ true
at_has [] k d lt = absurd (omega (arith, lt))
at_has (x ∷ xs) zero d lt = or_left (x == x) (has_number xs x) (eq-eqb x x refl)
at_has (x ∷ xs) (suc k) d lt = or_right (x == get_or xs k d) (has_number xs (get_or xs k d)) (at_has xs k d (omega (arith, lt)))

-- ---- one item more

pub found_at : {X : Type 0} (f : X → Bool) (xs : List X) (k : ℕ) (d : X) → k < length xs → f (get_or xs k d) ≡ true → find f (drop k xs) ≡ Some (get_or xs k d)
found_at f xs k d lt is = ap (find f) (drop_more xs k d lt) ∙ ap (λ (b : Bool). cond b (Some (get_or xs k d)) (find f (drop (k + 1) xs))) is

pub passed_at : {X : Type 0} (f : X → Bool) (xs : List X) (k : ℕ) (d : X) → k < length xs → f (get_or xs k d) ≡ false → find f (drop k xs) ≡ find f (drop (k + 1) xs)
passed_at f xs k d lt is = ap (find f) (drop_more xs k d lt) ∙ ap (λ (b : Bool). cond b (Some (get_or xs k d)) (find f (drop (k + 1) xs))) is

pub none_past : {X : Type 0} (f : X → Bool) (xs : List X) (k : ℕ) → length xs ≤ k → find f (drop k xs) ≡ None
none_past f [] zero le = refl
none_past f [] (suc k) le = refl
none_past f (x ∷ xs) zero le = absurd (omega (arith, le))
none_past f (x ∷ xs) (suc k) le = none_past f xs k (omega (arith, le))

-- ---- one list after another

pub some_first : {X : Type 0} (o p : Option X) → is_some o ≡ true → option_or o p ≡ o
some_first None p is = absurd (false≢true is)
some_first (Some x) p is = refl

pub none_first : {X : Type 0} (o p : Option X) → is_some o ≡ false → option_or o p ≡ p
none_first None p is = refl
none_first (Some x) p is = absurd (false≢true (sym is))

-- the first in the lists of what is left of some items: it is in that of the next item, or of what is left behind that
pub first_step : {X A : Type 0} (f : A → Bool) (list : X → List A) (xs : List X) (k : ℕ) (d : X) → k < length xs
    → find f (flat_map list (drop k xs)) ≡ option_or (find f (list (get_or xs k d))) (find f (flat_map list (drop (k + 1) xs)))
first_step f list xs k d lt = ap (λ l. find f (flat_map list l)) (drop_more xs k d lt) ∙ find-append f (list (get_or xs k d)) (flat_map list (drop (k + 1) xs))
