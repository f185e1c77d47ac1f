-- Texts that grow up to the size that a value may have.
use Rattle.std.specs.Prelude.{◌≡◌, ◌<◌, ◌≤◌, ℕ, List, ◌++◌, length, String, string_bytes}
use Rattle.std.specs.declared.alloc.Global.{Global}
use Rattle.scopes.specs.Texts.{largest_value}
use Rattle.scopes.specs.Moves.{Move}
use Rattle.scopes.specs.declared.all_scopes.Scopes.{Scopes}
use Rattle.scopes.specs.Scopes.{Always}

-- these characters were put behind the text
abbrev pub Adds : String Global → String Global → List ℕ → Type 0
Adds old new more = string_bytes new ≡ string_bytes old ++ more

-- with them it would be too large
abbrev pub IsTooMuch : String Global → List ℕ → Type 0
IsTooMuch old more = largest_value < length (string_bytes old ++ more)

-- the text is no larger than a value may be, if it was not before
abbrev pub KeepsToSize : String Global → String Global → Type 0
KeepsToSize old new = length (string_bytes old) ≤ largest_value → length (string_bytes new) ≤ largest_value

-- the same, where what is put behind the text is the value that something has after what was done to the scopes
abbrev pub AddsValue : Scopes → String Global → String Global → (List Move → List ℕ) → Type 0
AddsValue scopes old new value = Always scopes (λ past. Adds old new (value past))

abbrev pub IsTooMuchValue : Scopes → String Global → (List Move → List ℕ) → Type 0
IsTooMuchValue scopes old value = Always scopes (λ past. IsTooMuch old (value past))
