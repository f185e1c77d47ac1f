-- The first two numbers of a version, from the parts that an iterator gives.
use Rattle.std.proofs.Common.{◌≡◌, ◌<◌, ◌≤◌, ◌||◌, ◌&&◌, ◌==◌, true, false, ℕ, Bool, if◌then◌else◌, List, [], ◌∷◌, length, get_or, nat_lt, Option, None, Some, refl, ap, sym, subst, arith}
use Rattle.std.specs.Prelude.{MatchOption}
use Rattle.std.proofs.lemmas.Iterator.{YieldsList}
use Rattle.std.proofs.lemmas.Iterator.Consumers.{YieldsList-turn, YieldsList-end}
use Rattle.std.proofs.lemmas.Bool.{ltb-true}
use Rattle.manifest.specs.Numbers.{number_behind, leading_digits, number_of_first, behind_first, IsNumber}

-- what a part gives, or 0 where there is none
abbrev pub IsPartNumber : {A : Type 0} → (A → List ℕ) → Option A → ℕ → Type 0
IsPartNumber v part number = MatchOption part (number ≡ 0) (λ text. IsNumber number (number_behind 0 (leading_digits (v text))))

at_first : (all : List (List ℕ)) (text : List ℕ) (number : ℕ) → 0 < length all → text ≡ get_or all 0 text → IsNumber number (number_behind 0 (leading_digits text)) → IsNumber number (number_of_first all)
at_first [] text number some is gives = absurd (omega arith)
at_first (first ∷ all) text number some is gives = subst (λ (part : List ℕ). IsNumber number (number_behind 0 (leading_digits part))) is gives

at_second : (all : List (List ℕ)) (text : List ℕ) (number : ℕ) → 1 < length all → text ≡ get_or all 1 text → IsNumber number (number_behind 0 (leading_digits text)) → IsNumber number (number_of_first (behind_first all))
at_second [] text number some is gives = absurd (omega arith)
at_second (first ∷ []) text number some is gives = absurd (omega arith)
at_second (first ∷ second ∷ all) text number some is gives = subst (λ (part : List ℕ). IsNumber number (number_behind 0 (leading_digits part))) is gives

none_left : (all : List (List ℕ)) (number : ℕ) → length all ≡ 0 → number ≡ 0 → IsNumber number (number_of_first all)
none_left [] number none is = is
none_left (first ∷ all) number none is = absurd (omega arith)

none_behind : (all : List (List ℕ)) (number : ℕ) → length all ≤ 1 → number ≡ 0 → IsNumber number (number_of_first (behind_first all))
none_behind [] number none is = is
none_behind (first ∷ []) number none is = is
none_behind (first ∷ second ∷ all) number none is = absurd (omega arith)

module _ {S A : Type 0} {steps : S → Option A → S → Type 0} {v : A → List ℕ} {s : S} {all : List (List ℕ)} (road : YieldsList steps v s all) where
  pub first_number : (part : Option A) (t : S) (number : ℕ) → steps s part t → IsPartNumber v part number → IsNumber number (number_of_first all)
  first_number None t number step is =
      let whole = YieldsList-end road [] s refl None t refl step in
      let none : length all ≡ 0 = sym whole.1 in
      none_left all number none is
  first_number (Some x) t number step is =
      let turn = YieldsList-turn road [] s refl (Some x) t x refl step in
      let some : 0 < length all = turn.0 in
      at_first all (v x) number some turn.1 is

  pub second_number : (first second : Option A) (t u : S) (number : ℕ) → 0 < length all → steps s first t → steps t second u → IsPartNumber v second number
      → IsNumber number (number_of_first (behind_first all))
  second_number None second t u number some step next is =
      let whole = YieldsList-end road [] s refl None t refl step in
      let none : length all ≡ 0 = sym whole.1 in
      absurd (omega arith)
  second_number (Some x) None t u number some step next is =
      let whole = YieldsList-end road (x ∷ []) t (t, step, refl) None u refl next in
      let one : length all ≡ 1 = sym whole.1 in
      none_behind all number (omega arith) is
  second_number (Some x) (Some y) t u number some step next is =
      let turn = YieldsList-turn road (x ∷ []) t (t, step, refl) (Some y) u y refl next in
      let more : 1 < length all = turn.0 in
      at_second all (v y) number more turn.1 is

-- ---- small numbers are compared as they are

above_at : (most number of small : ℕ) (larger : Bool) → nat_lt most of ≡ larger → small < most → number ≡ (if larger then most else of) → nat_lt small number ≡ nat_lt small of
above_at most number of small true is below same = let above : most < of = ltb-true most of is in grind arith
above_at most number of small false is below same = ap (nat_lt small) same

pub above_same : (most number of small : ℕ) → small < most → number ≡ (if nat_lt most of then most else of) → nat_lt small number ≡ nat_lt small of
above_same most number of small below same = above_at most number of small (nat_lt most of) refl below same

equal_at : (most number of small : ℕ) (larger : Bool) → nat_lt most of ≡ larger → small < most → number ≡ (if larger then most else of) → (number == small) ≡ (of == small)
equal_at most number of small true is below same = let above : most < of = ltb-true most of is in grind arith
equal_at most number of small false is below same = ap (λ (n : ℕ). n == small) same

pub equal_same : (most number of small : ℕ) → small < most → number ≡ (if nat_lt most of then most else of) → (number == small) ≡ (of == small)
equal_same most number of small below same = equal_at most number of small (nat_lt most of) refl below same

pub either_first : (a b c : Bool) → a ≡ true → a ≡ (a || (b && c))
either_first true b c is = refl
either_first false b c is = cc

pub either_both : (a b c : Bool) → a ≡ false → b ≡ true → c ≡ (a || (b && c))
either_both false true c below is = refl
either_both true b c below is = absurd cc
either_both false false c below is = absurd cc

pub either_none : (a b c : Bool) → a ≡ false → b ≡ false → b ≡ (a || (b && c))
either_none false false c below other = refl
either_none true b c below other = absurd cc
either_none false true c below other = absurd cc
