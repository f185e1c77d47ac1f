-- A line that shrinks where it stands.
use Rattle.std.specs.Prelude.{◌≡◌, ◌⊎◌, ℕ, ◌+◌, ◌-◌, ◌<◌, ◌≤◌, List, length, take, get_or, slice_set}
use Rattle.paths.specs.declared.line.Line.{Line}
use Rattle.paths.specs.declared.lines.Row.{Row}
use Rattle.paths.specs.Lists.{line_at, line_of, IsRowIn}

-- the list without its last so many
abbrev pub without_last : ℕ → List ℕ → List ℕ
without_last count xs = take (length xs - count) xs

-- the line without its last so many implicit outputs and implicit inputs
abbrev pub shrunk_line : Line → ℕ → ℕ → Line
shrunk_line line outputs inputs = record {
  explicit_outputs = line.explicit_outputs;
  implicit_outputs = without_last outputs line.implicit_outputs;
  explicit_inputs = line.explicit_inputs;
  implicit_inputs = without_last inputs line.implicit_inputs;
  order_only_inputs = line.order_only_inputs;
  validations = line.validations;
}

-- these lines, of which that of the edge is shrunk
abbrev pub with_shrunk : List Line → ℕ → ℕ → ℕ → List Line
with_shrunk lines edge outputs inputs = slice_set lines edge (shrunk_line (line_at lines edge) outputs inputs)

-- so many numbers from a place on stand from another one on, and behind these and in front of them all is as before
pub record IsMovedTo (old new : List ℕ) (start count to : ℕ) : Type 0 where
  pub fits : length new ≡ length old
  pub front : (k : ℕ) → k < to → get_or new k 0 ≡ get_or old k 0
  pub moved : (k : ℕ) → to ≤ k → k < to + count → get_or new k 0 ≡ get_or old (start + (k - to)) 0
  pub behind : (k : ℕ) → to + count ≤ k → get_or new k 0 ≡ get_or old k 0

-- the row has fewer implicit outputs and implicit inputs, in places that it had, and what stood elsewhere stands there still
pub record IsShrunkRow (old new : List ℕ) (row : Row) (outputs inputs : ℕ) (after : Row) : Type 0 where
  pub fits : length new ≡ length old
  pub lies : IsRowIn (length new) after
  pub is : line_of new after ≡ shrunk_line (line_of old row) outputs inputs
  pub first : after.start ≡ row.start
  pub last : after.validations ≤ row.validations
  pub elsewhere : (k : ℕ) → (k < row.start) ⊎ (row.validations ≤ k) → get_or new k 0 ≡ get_or old k 0
