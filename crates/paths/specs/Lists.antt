-- The lists of paths that edges have, as they stand in flat memory.
use Rattle.std.specs.Prelude.{◌≡◌, ◌⊎◌, ℕ, ◌<◌, ◌≤◌, ◌-◌, List, [], ◌++◌, length, take, drop, get_or}
use Rattle.std.specs.List.{AllByRecursion, flat_map}
use Rattle.paths.specs.declared.line.Line.{Line}
use Rattle.paths.specs.declared.lines.Row.{Row}

-- a line without paths
abbrev pub no_line : Line
no_line = record {
  explicit_outputs = [];
  implicit_outputs = [];
  explicit_inputs = [];
  implicit_inputs = [];
  order_only_inputs = [];
  validations = [];
}

-- the line of this place
abbrev pub line_at : List Line → ℕ → Line
line_at lines e = get_or lines e no_line

-- ---- all paths of a line, by their numbers

abbrev pub line_outputs : Line → List ℕ
line_outputs line = line.explicit_outputs ++ line.implicit_outputs

abbrev pub line_regular_inputs : Line → List ℕ
line_regular_inputs line = line.explicit_inputs ++ line.implicit_inputs

abbrev pub line_inputs : Line → List ℕ
line_inputs line = line_regular_inputs line ++ line.order_only_inputs

abbrev pub line_paths : Line → List ℕ
line_paths line = line_outputs line ++ (line_inputs line ++ line.validations)

-- the line with more implicit outputs and more implicit inputs
abbrev pub grown_line : Line → List ℕ → List ℕ → Line
grown_line line outputs inputs = record {
  explicit_outputs = line.explicit_outputs;
  implicit_outputs = line.implicit_outputs ++ outputs;
  explicit_inputs = line.explicit_inputs;
  implicit_inputs = line.implicit_inputs ++ inputs;
  order_only_inputs = line.order_only_inputs;
  validations = line.validations;
}

-- ---- in flat memory

-- what stands from one place to another
abbrev pub between : List ℕ → ℕ → ℕ → List ℕ
between numbers start stop = take (stop - start) (drop start numbers)

-- where the lists of an edge end, each of which begins where the one before it ends
abbrev pub line_of : List ℕ → Row → Line
line_of numbers row = record {
  explicit_outputs = between numbers row.start row.explicit_outputs;
  implicit_outputs = between numbers row.explicit_outputs row.implicit_outputs;
  explicit_inputs = between numbers row.implicit_outputs row.explicit_inputs;
  implicit_inputs = between numbers row.explicit_inputs row.implicit_inputs;
  order_only_inputs = between numbers row.implicit_inputs row.order_only_inputs;
  validations = between numbers row.order_only_inputs row.validations;
}

-- the ends of an edge's lists lie in order
pub record IsRowIn (count : ℕ) (row : Row) : Type 0 where
  pub explicit_outputs : row.start ≤ row.explicit_outputs
  pub implicit_outputs : row.explicit_outputs ≤ row.implicit_outputs
  pub explicit_inputs : row.implicit_outputs ≤ row.explicit_inputs
  pub implicit_inputs : row.explicit_inputs ≤ row.implicit_inputs
  pub order_only_inputs : row.implicit_inputs ≤ row.order_only_inputs
  pub validations : row.order_only_inputs ≤ row.validations
  pub within : row.validations ≤ count

abbrev pub no_row : Row
no_row = record { start = 0; explicit_outputs = 0; implicit_outputs = 0; explicit_inputs = 0; implicit_inputs = 0; order_only_inputs = 0; validations = 0 }

abbrev pub row_at : List Row → ℕ → Row
row_at rows k = get_or rows k no_row

abbrev pub AreRowsIn : ℕ → List Row → Type 0
AreRowsIn count rows = AllByRecursion (IsRowIn count) rows

-- no two of them share a place
abbrev pub AreApart : List Row → Type 0
AreApart rows = (j k : ℕ) → j < k → k < length rows → ((row_at rows j).validations ≤ (row_at rows k).start) ⊎ ((row_at rows k).validations ≤ (row_at rows j).start)

pub record AreLaidOut (count : ℕ) (rows : List Row) : Type 0 where
  pub lie : AreRowsIn count rows
  pub apart : AreApart rows

-- ---- one more line

pub record Extends (old new : List ℕ) : Type 0 where
  pub more : List ℕ
  pub grows : new ≡ old ++ more

-- the lists of the line were put at the end
pub record IsAppended (old new : List ℕ) (line : Line) (row : Row) : Type 0 where
  pub extends : Extends old new
  pub lies : IsRowIn (length new) row
  pub is : line_of new row ≡ line
  pub behind : length old ≤ row.start

-- the numbers of all paths of these lines
abbrev pub all_paths : List Line → List ℕ
all_paths lines = flat_map line_paths lines
