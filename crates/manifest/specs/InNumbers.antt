-- The paths of build lines, as the reader keeps them: a table of texts, and numbers.
use Rattle.std.specs.Prelude.{◌≡◌, ℕ, ◌<◌, not, Bool, if◌then◌else◌, List, [], ◌∷◌, ◌++◌, filter, length, Result, Ok, Err}
use Rattle.std.specs.List.{AllByRecursion}
use Rattle.model.specs.Graph.{has, has_number}
use Rattle.paths.specs.declared.line.Line.{Line}
use Rattle.paths.specs.Lists.{line_outputs}
use Rattle.paths.specs.Told.{texts_at}
use Rattle.manifest.specs.declared.fault.ReadError.{ReadError}
use Rattle.manifest.specs.declared.kept.Named.{Named}
use Rattle.manifest.specs.Answer.{IsFaultOf}
use Rattle.manifest.specs.Readings.{Outcome}
use Rattle.manifest.specs.Readings.Outcome.{Reached}
use Rattle.manifest.specs.Spelled.{EdgePaths}
use Rattle.manifest.specs.States.{different}

-- ---- a table that grows

-- the table was only added to
pub record IsLonger (old new : List (List ℕ)) : Type 0 where
  pub more : List (List ℕ)
  pub grows : new ≡ old ++ more

-- the paths of build lines, each once
pub record AreKeys (keys paths : List (List ℕ)) : Type 0 where
  pub same : (path : List ℕ) → has keys path ≡ has paths path
  pub count : length keys ≡ different paths

abbrev pub AreBelow : ℕ → List ℕ → Type 0
AreBelow count numbers = AllByRecursion (λ number. number < count) numbers

-- the paths with these numbers were put into the table
pub record AreAdded (old new : List (List ℕ)) (numbers : List ℕ) : Type 0 where
  pub grows : IsLonger old new
  pub within : AreBelow (length new) numbers
  pub keys : (before : List (List ℕ)) → AreKeys old before → AreKeys new (before ++ texts_at new numbers)

-- ---- a line

-- all paths of the line, list by list
abbrev pub numbers_of : Line → List ℕ
numbers_of line =
    line.explicit_outputs ++ (line.implicit_outputs ++ (line.explicit_inputs ++ (line.implicit_inputs
    ++ (line.order_only_inputs ++ line.validations))))

abbrev pub IsWithin : List (List ℕ) → Line → Type 0
IsWithin table line = AreBelow (length table) (numbers_of line)

-- the texts of the line
abbrev pub paths_at : List (List ℕ) → Line → EdgePaths
paths_at table line = record {
  explicit_outputs = texts_at table line.explicit_outputs;
  implicit_outputs = texts_at table line.implicit_outputs;
  explicit_inputs = texts_at table line.explicit_inputs;
  implicit_inputs = texts_at table line.implicit_inputs;
  order_only_inputs = texts_at table line.order_only_inputs;
  validations = texts_at table line.validations;
}

-- the line that was read, or why none was, is that of the reading
abbrev pub FindsPaths : List (List ℕ) → (Outcome EdgePaths → Type 0) → Result Line ReadError → Type 0
FindsPaths table reading (Ok line) = reading (Reached (paths_at table line))
FindsPaths table reading (Err error) = IsFaultOf reading error

-- ---- the line of a phony

abbrev pub HasNumbers : List ℕ → List ℕ → Type 0
HasNumbers keys numbers = (number : ℕ) → has_number keys number ≡ has_number numbers number

abbrev pub numbers_without : List ℕ → List ℕ → List ℕ
numbers_without outputs numbers = filter (λ number. not (has_number outputs number)) numbers

abbrev pub without_own : Line → Line
without_own line = record {
  explicit_outputs = line.explicit_outputs;
  implicit_outputs = line.implicit_outputs;
  explicit_inputs = numbers_without (line_outputs line) line.explicit_inputs;
  implicit_inputs = numbers_without (line_outputs line) line.implicit_inputs;
  order_only_inputs = numbers_without (line_outputs line) line.order_only_inputs;
  validations = line.validations;
}

-- the line that is kept
abbrev pub kept_line : Bool → Line → Line
kept_line is_phony line = if is_phony then without_own line else line

abbrev pub with_line : Line → Named → Named
with_line line named = record { table = named.table; lines = named.lines ++ line ∷ [] }
