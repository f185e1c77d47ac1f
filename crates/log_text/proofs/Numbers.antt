-- Texts that begin with a digit from 1 to 9, and decimal numbers.
use Rattle.std.proofs.Common.{◌≡◌, ◌<◌, ◌^◌, ◌∷◌, [], ℕ, List, length, decimal, sym, ◌∙◌, ap, subst, arith, zero, suc, Result, Ok, Err, IfSome, IfNone, get_or, refl}
use Rattle.std.specs.Result.{result_ok}
use Rattle.std.specs.Str.Parse.{ParsesUnsigned, digits_value, AllDigits}
use Rattle.std.proofs.lemmas.Result.{OkIff-at_ok}
use Rattle.std.proofs.lemmas.Str.Parse.{parse_plain, numerals_by_value, tells_digits, digit_from_value}
use Rattle.std.proofs.lemmas.Fmt.{parse-decimal, decimal-digits_value, decimal_is_IsNumeral, first_decimal, decimal_digit}
use Rattle.log_text.specs.Line.{Leads}

led_read : {E : Type 0} (text : List ℕ) (r : Result ℕ E) (n : ℕ) → Leads text → ParsesUnsigned 64 10 text r → r ≡ Ok n → text ≡ decimal n
led_read {E = E} [] r n leads parsed is = elim leads [ ]
led_read {E = E} (b ∷ bs) r n leads parsed is =
    let own = numerals_by_value (AllDigits 10) tells_digits in
    let all = OkIff-at_ok {E = E} r (AllDigits 10 (b ∷ bs) × (0 < length (b ∷ bs)) × (digits_value 10 (b ∷ bs) < 2 ^ 64)) (digits_value 10 (b ∷ bs)) n (parse_plain own {E = E} 64 (b ∷ bs) r parsed (λ plus. omega (arith, leads.0, plus))) is in
    sym (decimal-digits_value own (b ∷ bs) all.0.0 (omega arith) (λ nought. omega (arith, leads.0, nought)) all.0.2) ∙ ap decimal (sym all.1)

-- what is parsed of such a text is the number that it spells
pub led_number : {E : Type 0} (text : List ℕ) (r : Result ℕ E) → Leads text → ParsesUnsigned 64 10 text r → IfSome (result_ok r) (λ n. text ≡ decimal n)
led_number {E = E} text (Err e) leads parsed = tt
led_number {E = E} text (Ok n) leads parsed = led_read {E = E} text (Ok n) n leads parsed refl

pub led_none : {E : Type 0} (text : List ℕ) (r : Result ℕ E) → ParsesUnsigned 64 10 text r → IfNone (result_ok r) ((n : ℕ) → n < 2 ^ 64 → text ≡ decimal n → ⊥)
led_none text (Ok n) parsed = tt
led_none text (Err e) parsed = λ n below is. let clash = parse-decimal 64 n text (Err e) below below is parsed in cc

-- a numeral's first digit
is_digit : (ds : List ℕ) → 0 < length ds → AllDigits 10 ds → 48 < get_or ds 0 0 → Leads ds
is_digit [] some all high = omega arith
is_digit (d ∷ ds) some all high = (high, omega (arith, digit_from_value d all.0))

-- each number but 0 begins so
pub number_leads : (n : ℕ) → n < 2 ^ 64 → 0 < n → Leads (decimal n)
number_leads n below some = let numeral = (decimal_is_IsNumeral n below).0 in is_digit (decimal n) numeral.0 numeral.1 (first_decimal n some below)

pub nought : decimal 0 ≡ 48 ∷ []
nought = decimal_digit 0 (omega arith)

-- a text that is not `0` and does not begin so is no number's
pub unled_none : (text : List ℕ) → (text ≡ 48 ∷ [] → ⊥) → (Leads text → ⊥) → (n : ℕ) → n < 2 ^ 64 → text ≡ decimal n → ⊥
unled_none text other unled zero below is = other (is ∙ nought)
unled_none text other unled (suc n) below is = unled (subst Leads (sym is) (number_leads (suc n) below (omega arith)))
