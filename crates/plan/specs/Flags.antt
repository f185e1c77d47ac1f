-- Sets of numbers as lists of flags.
use Rattle.std.specs.Prelude.{◌≡◌, ℕ, ◌<◌, Bool, true, false, List, slice_index_or}

-- whether the number is in the set
abbrev pub has : List Bool → ℕ → Bool
has flags number = slice_index_or flags number false

-- the lowest number of the set
pub record IsFirst (flags : List Bool) (number : ℕ) : Type 0 where
  pub is : has flags number ≡ true
  pub lowest : (k : ℕ) → k < number → has flags k ≡ false

-- no number is in the set
abbrev pub AreNone : List Bool → Type 0
AreNone flags = (k : ℕ) → has flags k ≡ false
