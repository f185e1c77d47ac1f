-- When a path is near to a target. The definition is this project's own.
use Rattle.std.specs.Prelude.{ℕ, ◌+◌, ◌-◌, ◌/◌, ◌≤◌, List, length, min}
use Rattle.std.specs.Str.{chars}
use Rattle.strsim.specs.Edits.{osa_table}

-- how many characters lie between two texts: each is added, left out or another one, or two neighbours are exchanged
abbrev pub steps : List ℕ → List ℕ → ℕ
steps a b = (osa_table (chars a) (chars b)).last_row (length (chars b))

-- how many steps may lie between a target of so many characters and what was meant
abbrev pub most_steps : ℕ → ℕ
most_steps size = min (min ((size + 2) / 3) 3) (size - 1)

-- the path is near to the target
abbrev pub IsNear : List ℕ → List ℕ → Type 0
IsNear target path = steps target path ≤ most_steps (length (chars target))
