-- Names as a trace writes them: each byte as `\x` and two digits to the base 16.
use Rattle.std.specs.Prelude.{ℕ, ◌+◌, ◌-◌, ◌*◌, ◌==◌, ◌&&◌, List, [], ◌∷◌, Option, Some, None, option_map, option_and_then, nat_le, if◌then◌else◌}

-- the value of a digit, in small letters
abbrev pub digit : ℕ → Option ℕ
digit b =
    if nat_le 48 b && nat_le b 57 then Some (b - 48)
    else (if nat_le 97 b && nat_le b 102 then Some (b - 97 + 10) else None)

-- the byte of two digits
abbrev pub byte_of : ℕ → ℕ → Option ℕ
byte_of high low = option_and_then (λ h. option_map (λ l. h * 16 + l) (digit low)) (digit high)

-- a byte in front of others
abbrev pub in_front_of : Option (List ℕ) → Option ℕ → Option (List ℕ)
in_front_of more first = option_and_then (λ b. option_map (λ bs. b ∷ bs) more) first

-- the bytes that are written so; none where something else stands there
abbrev pub unhex : List ℕ → Option (List ℕ)
unhex [] = Some []
unhex (a ∷ []) = None
unhex (a ∷ b ∷ []) = None
unhex (a ∷ b ∷ c ∷ []) = None
unhex (a ∷ b ∷ c ∷ d ∷ text) = if a == 92 && b == 120 then in_front_of (unhex text) (byte_of c d) else None
