-- Digits as bytes.
use Rattle.std.specs.Prelude.{◌<◌, ◌≤◌, ℕ}

abbrev pub IsDigit : ℕ → Type 0
IsDigit byte = (48 ≤ byte) × (byte < 58)

-- these four are
abbrev pub AreDigits : ℕ → ℕ → ℕ → ℕ → Type 0
AreDigits a b c d = IsDigit a × IsDigit b × IsDigit c × IsDigit d
