-- Where a run of characters ends, by places. Only the crate's private clauses cite it.
use Rattle.std.specs.Prelude.{◌≡◌, ℕ, ◌<◌, ◌≤◌, Bool, true, false, not, List, length, get_or}
use Rattle.depfile.specs.declared.characters.Class.{Class}
use Rattle.depfile.specs.declared.characters.Class.TheVariants as class
use Rattle.depfile.specs.Pieces.{is_of}

-- a run of plain characters ends at this byte
abbrev pub is_stop : ℕ → Bool
is_stop b = not (is_of class.Plain b)

-- the run that goes on at this place ends at that one
abbrev pub IsRunEnd : Class → List ℕ → ℕ → ℕ → Type 0
IsRunEnd class bytes from end =
    (from ≤ end) × (end ≤ length bytes) ×
    ((k : ℕ) → from ≤ k → k < end → is_of class (get_or bytes k 0) ≡ true) ×
    (end < length bytes → is_of class (get_or bytes end 0) ≡ false)
