-- How the parts behind a path's slashes begin. Only the crate's private clauses cite it.
use Prim.Native.Nat.{suc}
use Rattle.std.specs.Prelude.{◌≡◌, ℕ, ◌<◌, ◌≤◌, Bool, true, false, List, ◌==◌, ◌&&◌, ◌||◌, length, get_or}

-- a slash, behind which the part is empty or begins with a dot
abbrev pub is_fault : ℕ → ℕ → Bool
is_fault before b = before == 47 && (b == 47 || b == 46)

abbrev pub fault_at : List ℕ → ℕ → Bool
fault_at bytes k = is_fault (get_or bytes k 0) (get_or bytes (suc k) 0)

abbrev pub AreFine : List ℕ → ℕ → ℕ → Type 0
AreFine bytes from to = (k : ℕ) → from ≤ k → k < to → fault_at bytes k ≡ false

abbrev pub HasFault : List ℕ → Type 0
HasFault bytes = (k : ℕ) × (suc k < length bytes) × (fault_at bytes k ≡ true)
