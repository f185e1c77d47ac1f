-- What a screen holds back (this project's own).
use Rattle.std.specs.Prelude.{ℕ, List, [], ◌++◌, Option, Some, None}

-- the texts held back, one behind the other; a screen that is None shows each text at once
abbrev pub held : Option (List ℕ) → List ℕ
held None = []
held (Some texts) = texts
