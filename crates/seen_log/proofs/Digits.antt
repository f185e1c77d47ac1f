-- Numbers that are read digit by digit.
use Rattle.std.proofs.Common.{◌≡◌, ◌<◌, ◌≤◌, ◌^◌, ◌+◌, ◌*◌, ◌/◌, ◌%◌, ℕ, decimal, List, [], ◌∷◌, ◌++◌, sym, ap, ◌∙◌, arith, append_assoc}
use Rattle.std.specs.Str.{IsUtf8}
use Rattle.std.specs.Str.Parse.{AllDigits}
use Rattle.std.proofs.lemmas.Str.Parse.{digit_from_value}
use Rattle.std.proofs.lemmas.Fmt.{decimal_digit, decimal_step, decimal_is_IsNumeral, IsAscii-decimal}
use Rattle.std.proofs.lemmas.Str.{IsUtf8-from_ascii}
use Rattle.text.specs.Marks.{Lacks}
use Rattle.log_text.specs.Line.{field_and_tab, IsPlain}
use Rattle.seen_log.proofs.InFront.{field_in_front}

-- how far a number has been read: it is not 0, and rest is left
pub record IsReadTo (bytes : List ℕ) (number : ℕ) (rest : List ℕ) : Type 0 where
  pub read : bytes ≡ decimal number ++ rest
  pub some : 0 < number
  pub low : number < 2 ^ 64

-- one digit behind others
pub digit_behind : (number digit : ℕ) → 0 < number → digit < 10 → number * 10 + digit < 2 ^ 64 → decimal (number * 10 + digit) ≡ decimal number ++ (48 + digit) ∷ []
digit_behind number digit some low below =
    let more = number * 10 + digit in
    let front : more / 10 ≡ number = omega arith in
    let last : more % 10 ≡ digit = omega arith in
    decimal_step more (omega arith) below ∙ (λ i. decimal (front i) ++ (48 + last i) ∷ [])

pub first_digit : (bytes : List ℕ) (digit : ℕ) (after : List ℕ) → bytes ≡ (48 + digit) ∷ after → digit < 10 → bytes ≡ decimal digit ++ after
first_digit bytes digit after e low = e ∙ ap (λ (l : List ℕ). l ++ after) (sym (decimal_digit digit low))

pub one_more : (bytes : List ℕ) (number more digit : ℕ) (rest after : List ℕ) → IsReadTo bytes number rest → rest ≡ (48 + digit) ∷ after → decimal more ≡ decimal number ++ (48 + digit) ∷ [] → 0 < more → more < 2 ^ 64 → IsReadTo bytes more after
one_more bytes number more digit rest after is e digits some low = record {
  read = is.read ∙ (ap (λ (l : List ℕ). decimal number ++ l) e ∙ (sym (append_assoc (decimal number) ((48 + digit) ∷ []) after) ∙ ap (λ (l : List ℕ). l ++ after) (sym digits)));
  some = some;
  low = low;
}

pub decimal_utf8 : (n : ℕ) → n < 2 ^ 64 → IsUtf8 (decimal n)
decimal_utf8 n below = IsUtf8-from_ascii (decimal n) (IsAscii-decimal n below)

digits_lack : (mark : ℕ) (ds : List ℕ) → AllDigits 10 ds → (mark < 48) → Lacks mark ds
digits_lack mark [] all low = tt
digits_lack mark (d ∷ ds) all low = ((λ is. omega (arith, is, digit_from_value d all.0)), digits_lack mark ds all.1 low)

digits_lack_high : (mark : ℕ) (ds : List ℕ) → AllDigits 10 ds → 58 ≤ mark → Lacks mark ds
digits_lack_high mark [] all high = tt
digits_lack_high mark (d ∷ ds) all high = ((λ is. omega (arith, is, digit_from_value d all.0)), digits_lack_high mark ds all.1 high)

-- no digit is written as two bytes
decimal_plain : (n : ℕ) → n < 2 ^ 64 → IsPlain (decimal n)
decimal_plain n below =
    let all = (decimal_is_IsNumeral n below).0.1 in
    (digits_lack_high 92 (decimal n) all (omega arith), digits_lack 9 (decimal n) all (omega arith), digits_lack 10 (decimal n) all (omega arith))

joined : (bytes rest after : List ℕ) (number : ℕ) → bytes ≡ decimal number ++ rest → rest ≡ 9 ∷ after → bytes ≡ decimal number ++ 9 ∷ after
joined bytes rest after number e tab = e ∙ ap (λ (l : List ℕ). decimal number ++ l) tab

-- digits and a tab are the field of their number
pub number_field : (bytes rest after : List ℕ) (number : ℕ) → number < 2 ^ 64 → bytes ≡ decimal number ++ rest → rest ≡ 9 ∷ after → bytes ≡ field_and_tab (decimal number) ++ after
number_field bytes rest after number below e tab = joined bytes rest after number e tab ∙ field_in_front (decimal number) after (decimal_plain number below)
