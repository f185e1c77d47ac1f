-- Numbers that digits spell, and what 64 bits keep of them.
use Rattle.std.proofs.Common.{◌≡◌, ◌<◌, ◌≤◌, ◌+◌, ◌*◌, ◌-◌, ◌&&◌, true, false, ℕ, Bool, if◌then◌else◌, List, [], ◌∷◌, ◌++◌, length, take, drop, get_or, nat_lt, refl, ap, sym, subst, ◌∙◌, arith, append_assoc, add-one, drop-cons}
use Rattle.std.proofs.lemmas.List.{take_more}
use Rattle.std.proofs.lemmas.Bool.{ltb-true}
use Rattle.std.specs.List.{list_all}
use Rattle.std.specs.Prelude.{min}
use Rattle.manifest.specs.Numbers.{is_digit, number_behind, leading_digits, all_digits, IsNumber, largest_number}

number_behind_push : (before : ℕ) (digits : List ℕ) (digit : ℕ) → number_behind before (digits ++ digit ∷ []) ≡ 10 * number_behind before digits + (digit - 48)
number_behind_push before [] digit = refl
number_behind_push before (first ∷ digits) digit = number_behind_push (10 * before + (first - 48)) digits digit

-- ---- the largest number, in place of a larger one

least_at : (most number of : ℕ) (larger : Bool) → nat_lt most of ≡ larger → number ≡ (if larger then most else of) → number ≡ min of most
least_at most number of true is same = let above : most < of = ltb-true most of is in omega arith
least_at most number of false is same = let below : of ≤ most = grind arith in omega arith

least : (most number of : ℕ) → number ≡ (if nat_lt most of then most else of) → number ≡ min of most
least most number of same = least_at most number of (nat_lt most of) refl same

larger_at : (most number of : ℕ) (larger : Bool) → nat_lt most of ≡ larger → number ≡ min of most → number ≡ (if larger then most else of)
larger_at most number of true is same = let above : most < of = ltb-true most of is in omega arith
larger_at most number of false is same = let below : of ≤ most = grind arith in omega arith

next_number : (most number product sum of digit : ℕ) → number ≡ (if nat_lt most of then most else of) → product ≡ min (number * 10) most → sum ≡ min (product + digit) most
    → sum ≡ (if nat_lt most (10 * of + digit) then most else (10 * of + digit))
next_number most number product sum of digit same times plus =
    let number_is : number ≡ min of most = least most number of same in
    larger_at most sum (10 * of + digit) (nat_lt most (10 * of + digit)) refl (omega arith)

-- ---- one more digit

digit_true : (byte : ℕ) → 48 ≤ byte → byte ≤ 57 → is_digit byte ≡ true
digit_true byte low high = grind arith

leading_cons : (byte : ℕ) (bytes : List ℕ) → is_digit byte ≡ true → leading_digits (byte ∷ bytes) ≡ byte ∷ leading_digits bytes
leading_cons byte bytes is = ap (λ (flag : Bool). if flag then byte ∷ leading_digits bytes else []) is

pub number_step : (text bytes : List ℕ) (i number product sum digit : ℕ) → bytes ≡ text → i < length bytes → IsNumber number (number_behind 0 (take i text))
    → product ≡ min (number * 10) 18446744073709551615 → digit ≡ get_or bytes i 0 - 48 → sum ≡ min (product + digit) 18446744073709551615 → IsNumber sum (number_behind 0 (take (i + 1) text))
number_step text bytes i number product sum digit same below is times digit_is plus =
    let below' : i < length text = rw same at below in
    let digit_is' : digit ≡ get_or text i 0 - 48 = rw same at digit_is in
    let more : number_behind 0 (take (i + 1) text) ≡ 10 * number_behind 0 (take i text) + digit =
    ap (number_behind 0) (take_more text i 0 below') ∙ number_behind_push 0 (take i text) (get_or text i 0) ∙ ap (λ (n : ℕ). 10 * number_behind 0 (take i text) + n) (sym digit_is') in
    subst (λ (n : ℕ). IsNumber sum n) (sym more) (next_number largest_number number product sum (number_behind 0 (take i text)) digit is times plus)

pub digits_step : (text bytes : List ℕ) (i : ℕ) → bytes ≡ text → i < length bytes → 48 ≤ get_or bytes i 0 → get_or bytes i 0 ≤ 57
    → leading_digits text ≡ take i text ++ leading_digits (drop i text) → leading_digits text ≡ take (i + 1) text ++ leading_digits (drop (i + 1) text)
digits_step text bytes i same below low high so_far =
    let below' : i < length text = rw same at below in
    let low' : 48 ≤ get_or text i 0 = rw same at low in
    let high' : get_or text i 0 ≤ 57 = rw same at high in
    let first : drop i text ≡ get_or text i 0 ∷ drop (i + 1) text = rw (add-one, drop-cons text i 0) in
    let digit : is_digit (get_or text i 0) ≡ true = digit_true (get_or text i 0) low' high' in
    so_far ∙ ap (λ (rest : List ℕ). take i text ++ leading_digits rest) first ∙ ap (λ (rest : List ℕ). take i text ++ rest) (leading_cons (get_or text i 0) (drop (i + 1) text) digit)
    ∙ sym (append_assoc (take i text) (get_or text i 0 ∷ []) (leading_digits (drop (i + 1) text)))
    ∙ ap (λ (front : List ℕ). front ++ leading_digits (drop (i + 1) text)) (sym (take_more text i 0 below'))

-- ---- texts of digits alone

pub all_listed : (text : List ℕ) → list_all is_digit text ≡ all_digits text
all_listed [] = refl
all_listed (byte ∷ bytes) = ap (λ (rest : Bool). is_digit byte && rest) (all_listed bytes)

both_parts : (a b : Bool) → (a && b) ≡ true → (a ≡ true) × (b ≡ true)
both_parts true b e = (refl, e)
both_parts false b e = absurd cc

pub leading_all : (text : List ℕ) → all_digits text ≡ true → leading_digits text ≡ text
leading_all [] all = refl
leading_all (byte ∷ bytes) all =
    let parts = both_parts (is_digit byte) (all_digits bytes) all in
    leading_cons byte bytes parts.0 ∙ ap (λ (rest : List ℕ). byte ∷ rest) (leading_all bytes parts.1)
