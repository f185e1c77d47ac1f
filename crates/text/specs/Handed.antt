-- Bytes that are handed on piece by piece.
use Rattle.std.specs.Prelude.{ℕ, List, ◌++◌}

-- whatever was taken before, this piece was taken behind it
abbrev pub TakesOn : {T : Type 0} → (List ℕ → T → Type 0) → List ℕ → T → T → Type 0
TakesOn Took piece old new = (taken : List ℕ) → Took taken old → Took (taken ++ piece) new

-- some bytes were taken so far
abbrev pub HasTaken : {T : Type 0} → (List ℕ → T → Type 0) → T → Type 0
HasTaken Took it = (taken : List ℕ) × Took taken it

-- whoever had taken some bytes has taken some now
abbrev pub TakesMore : {T : Type 0} → (List ℕ → T → Type 0) → T → T → Type 0
TakesMore Took old new = HasTaken Took old → HasTaken Took new
