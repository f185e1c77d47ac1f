-- Names in hexadecimal digits.
use Rattle.std.proofs.Common.{◌≡◌, ◌≢◌, ℕ, ◌<◌, ◌≤◌, true, false, List, [], ◌∷◌, ◌++◌, length, get_or, drop, refl, sym, ap, Option, Some, None, arith, append_assoc, eq-eqb}
use Rattle.std.specs.Prelude.{◌&&◌, nat_eq, option_map}
use Rattle.trace.specs.Hex.{unhex, byte_of, in_front_of}

-- nothing was read yet
pub none_read : (found : Option (List ℕ)) → option_map (λ more. [] ++ more) found ≡ found
none_read None = refl
none_read (Some bytes) = refl

-- one byte more was read
pub one_read : (bytes : List ℕ) (b : ℕ) (found : Option (List ℕ)) → option_map (λ more. bytes ++ more) (option_map (λ more. b ∷ more) found) ≡ option_map (λ more. (bytes ++ b ∷ []) ++ more) found
one_read bytes b None = refl
one_read bytes b (Some more) = ap Some (sym (append_assoc bytes (b ∷ []) more))

-- all was read
pub all_read : (bytes : List ℕ) → option_map (λ more. bytes ++ more) (unhex []) ≡ Some (bytes ++ [])
all_read bytes = refl

is_number : (a b : ℕ) → a ≡ b → nat_eq a b ≡ true
is_number a b same = eq-eqb a b same

-- a byte stands first
pub byte_here : (text : List ℕ) → 4 ≤ length text → get_or text 0 0 ≡ 92 → get_or text 1 0 ≡ 120
    → unhex text ≡ in_front_of (unhex (drop 4 text)) (byte_of (get_or text 2 0) (get_or text 3 0))
byte_here [] long first second = absurd (omega (arith, long))
byte_here (a ∷ []) long first second = absurd (omega (arith, long))
byte_here (a ∷ b ∷ []) long first second = absurd (omega (arith, long))
byte_here (a ∷ b ∷ c ∷ []) long first second = absurd (omega (arith, long))
byte_here (a ∷ b ∷ c ∷ d ∷ text) long first second =
    let one : nat_eq a 92 ≡ true = is_number a 92 first in
    let two : nat_eq b 120 ≡ true = is_number b 120 second in
    rw (one, two) refl

in_front_of_byte : (b : ℕ) (more : Option (List ℕ)) (first : Option ℕ) → first ≡ Some b → in_front_of more first ≡ option_map (λ bs. b ∷ bs) more
in_front_of_byte b more first is = rw is refl

in_front_of_none : (more : Option (List ℕ)) (first : Option ℕ) → first ≡ None → in_front_of more first ≡ None
in_front_of_none more first is = rw is refl

-- no byte is shorter than four
pub too_short : (text : List ℕ) → text ≢ [] → length text < 4 → unhex text ≡ None
too_short [] some short = absurd (some refl)
too_short (a ∷ []) some short = refl
too_short (a ∷ b ∷ []) some short = refl
too_short (a ∷ b ∷ c ∷ []) some short = refl
too_short (a ∷ b ∷ c ∷ d ∷ text) some short = absurd (omega (arith, short))

-- it begins otherwise
pub no_byte : (text : List ℕ) → text ≢ [] → (nat_eq (get_or text 0 0) 92 && nat_eq (get_or text 1 0) 120) ≡ false → unhex text ≡ None
no_byte [] some other = absurd (some refl)
no_byte (a ∷ []) some other = refl
no_byte (a ∷ b ∷ []) some other = refl
no_byte (a ∷ b ∷ c ∷ []) some other = refl
no_byte (a ∷ b ∷ c ∷ d ∷ text) some other = rw other refl
