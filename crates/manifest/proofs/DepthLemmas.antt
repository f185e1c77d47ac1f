-- The depth that a text spells.
use Rattle.std.proofs.Common.{◌≡◌, ◌<◌, ◌≤◌, ◌&&◌, ◌==◌, not, true, false, ℕ, Bool, if◌then◌else◌, List, [], ◌∷◌, length, nat_lt, Option, None, Some, refl, ap, sym, subst, ◌∙◌, arith, lit<}
use Rattle.std.proofs.lemmas.Bool.{eqb-true, lt-ltb}
use Rattle.std.specs.Char.{is_ascii_digit}
use Rattle.std.specs.List.{list_all}
use Rattle.manifest.specs.Numbers.{is_digit, is_some_text, all_digits, number_behind, leading_digits, depth_in, largest_depth, largest_number, IsNumber}
use Rattle.manifest.proofs.NumberLemmas.{leading_all}
use Rattle.manifest.proofs.VersionLemmas.{above_same}

ascii_digit : (byte : ℕ) → is_ascii_digit byte ≡ is_digit byte
ascii_digit byte = grind arith

pub all_ascii : (text : List ℕ) → list_all is_ascii_digit text ≡ all_digits text
all_ascii [] = refl
all_ascii (byte ∷ bytes) = ap (λ (first : Bool). first && list_all is_ascii_digit bytes) (ascii_digit byte) ∙ ap (λ (rest : Bool). is_digit byte && rest) (all_ascii bytes)

pub empty_has_none : (text : List ℕ) → (length text == 0) ≡ true → None ≡ depth_in text
empty_has_none [] is = refl
empty_has_none (byte ∷ bytes) is = let zero : length (byte ∷ bytes) ≡ 0 = eqb-true (length (byte ∷ bytes)) 0 is in absurd (omega arith)

pub some_text_is : (text : List ℕ) → (length text == 0) ≡ false → is_some_text text ≡ true
some_text_is [] is = absurd cc
some_text_is (byte ∷ bytes) is = refl

abbrev depth_if : (some all larger : Bool) → ℕ → Option ℕ
depth_if some all larger number = if some && (all && not larger) then Some number else None

not_all_at : (some larger : Bool) (number : ℕ) → None ≡ depth_if some false larger number
not_all_at true larger number = refl
not_all_at false larger number = refl

pub other_has_none : (text : List ℕ) → all_digits text ≡ false → None ≡ depth_in text
other_has_none text is = not_all_at (is_some_text text) (nat_lt largest_depth (number_behind 0 text)) (number_behind 0 text)
    ∙ ap (λ (flag : Bool). depth_if (is_some_text text) flag (nat_lt largest_depth (number_behind 0 text)) (number_behind 0 text)) (sym is)

depth_at : (text : List ℕ) (larger : Bool) → is_some_text text ≡ true → all_digits text ≡ true → nat_lt largest_depth (number_behind 0 text) ≡ larger
    → depth_in text ≡ (if not larger then Some (number_behind 0 text) else None)
depth_at text larger some all is =
    ap (λ (flag : Bool). depth_if flag (all_digits text) (nat_lt largest_depth (number_behind 0 text)) (number_behind 0 text)) some
    ∙ ap (λ (flag : Bool). depth_if true flag (nat_lt largest_depth (number_behind 0 text)) (number_behind 0 text)) all
    ∙ ap (λ (flag : Bool). depth_if true true flag (number_behind 0 text)) is

number_is : (text : List ℕ) (number : ℕ) → all_digits text ≡ true → IsNumber number (number_behind 0 (leading_digits text)) → IsNumber number (number_behind 0 text)
number_is text number all is = subst (λ (digits : List ℕ). IsNumber number (number_behind 0 digits)) (leading_all text all) is

pub larger_has_none : (text : List ℕ) (number : ℕ) → (length text == 0) ≡ false → all_digits text ≡ true → IsNumber number (number_behind 0 (leading_digits text))
    → largest_depth < number → None ≡ depth_in text
larger_has_none text number some all is larger =
    let same = above_same largest_number number (number_behind 0 text) largest_depth (lit< tt) (number_is text number all is) in
    sym (depth_at text true (some_text_is text some) all (sym same ∙ lt-ltb largest_depth number larger))

same_at : (most small number of : ℕ) (larger : Bool) → small < most → number ≤ small → number ≡ (if larger then most else of) → number ≡ of
same_at most small number of true below within is = absurd (omega arith)
same_at most small number of false below within is = is

pub depth_is : (text : List ℕ) (number : ℕ) → (length text == 0) ≡ false → all_digits text ≡ true → IsNumber number (number_behind 0 (leading_digits text))
    → number ≤ largest_depth → Some number ≡ depth_in text
depth_is text number some all is within =
    let whole = number_is text number all is in
    let same = above_same largest_number number (number_behind 0 text) largest_depth (lit< tt) whole in
    let small : nat_lt largest_depth number ≡ false = grind arith in
    let equal = same_at largest_number largest_depth number (number_behind 0 text) (nat_lt largest_number (number_behind 0 text)) (lit< tt) within whole in
    ap Some equal ∙ sym (depth_at text false (some_text_is text some) all (sym same ∙ small))
