-- A line that grows where it is one of many.
use Rattle.std.specs.Prelude.{ℕ, List, slice_set}
use Rattle.paths.specs.declared.line.Line.{Line}
use Rattle.paths.specs.declared.lines.Row.{Row}
use Rattle.paths.specs.Lists.{line_at, line_of, grown_line, IsAppended}

-- these lines, of which that of the edge has more implicit outputs and more implicit inputs
abbrev pub with_grown : List Line → ℕ → List ℕ → List ℕ → List Line
with_grown lines edge outputs inputs = slice_set lines edge (grown_line (line_at lines edge) outputs inputs)

-- the lists of a row were put at the end once more, with more implicit outputs and more implicit inputs
abbrev pub IsGrownRow : List ℕ → List ℕ → Row → List ℕ → List ℕ → Row → Type 0
IsGrownRow old new row outputs inputs after = IsAppended old new (grown_line (line_of old row) outputs inputs) after
