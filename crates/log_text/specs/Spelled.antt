-- What a field that was read spells.
use Rattle.std.specs.Prelude.{ℕ, List, Option, Some, None, string_bytes, String}

-- the text itself, or what its escapes stand for where it has some
abbrev pub spelled : {Z : Type 0} → List ℕ → Option (String Z) → List ℕ
spelled plain None = plain
spelled plain (Some text) = string_bytes text
