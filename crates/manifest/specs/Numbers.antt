-- Numbers in values: depths of pools and versions (manual: "Pools", "Top-level variables").
use Rattle.std.specs.Prelude.{◌≡◌, ℕ, ◌+◌, ◌*◌, ◌-◌, ◌==◌, ◌||◌, ◌&&◌, not, Bool, true, false, if◌then◌else◌, List, [], ◌∷◌, nat_lt, Option, None, Some}
use Rattle.std.specs.List.{slice_split}

abbrev pub is_digit : ℕ → Bool
is_digit byte = nat_lt 47 byte && nat_lt byte 58

-- the number that digits spell behind this one
abbrev pub number_behind : ℕ → List ℕ → ℕ
number_behind before [] = before
number_behind before (digit ∷ digits) = number_behind (10 * before + (digit - 48)) digits

-- the digits that a text begins with
abbrev pub leading_digits : List ℕ → List ℕ
leading_digits [] = []
leading_digits (byte ∷ bytes) = if is_digit byte then byte ∷ leading_digits bytes else []

abbrev pub all_digits : List ℕ → Bool
all_digits [] = true
all_digits (byte ∷ bytes) = is_digit byte && all_digits bytes

abbrev pub is_some_text : List ℕ → Bool
is_some_text [] = false
is_some_text (byte ∷ bytes) = true

abbrev pub largest_depth : ℕ
largest_depth = 2147483647

-- a depth is spelled in decimal, and leading zeros may stand
abbrev pub depth_in : List ℕ → Option ℕ
depth_in text =
    if is_some_text text && (all_digits text && not (nat_lt largest_depth (number_behind 0 text))) then Some (number_behind 0 text) else None

-- ---- versions

-- the number that the first of these begins with; 0 where there is none
abbrev pub number_of_first : List (List ℕ) → ℕ
number_of_first [] = 0
number_of_first (part ∷ parts) = number_behind 0 (leading_digits part)

abbrev pub behind_first : List (List ℕ) → List (List ℕ)
behind_first [] = []
behind_first (part ∷ parts) = parts

-- what stands between the dots
abbrev pub version_parts : List ℕ → List (List ℕ)
version_parts text = slice_split (λ b. b == 46) text

-- the version is above 1.12, by its first two numbers (that a missing one is 0 is this project's own)
abbrev pub is_newer : List ℕ → Bool
is_newer text =
    nat_lt 1 (number_of_first (version_parts text))
    || ((number_of_first (version_parts text) == 1) && nat_lt 12 (number_of_first (behind_first (version_parts text))))

-- ---- numbers in 64 bits

abbrev pub largest_number : ℕ
largest_number = 18446744073709551615

-- the number, or the largest one where it is larger
abbrev pub IsNumber : ℕ → ℕ → Type 0
IsNumber number of = number ≡ (if nat_lt largest_number of then largest_number else of)
