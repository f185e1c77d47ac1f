-- What the records of a build tell that go behind its logs, as far as it counts here.
use Rattle.std.specs.Prelude.{◌≡◌, ℕ, List, [], ◌∷◌, ◌++◌, decimal}
use Rattle.std.specs.Borrow.{Bor}
use Rattle.log_text.specs.declared.form.Version.TheVariants.{Two}
use Rattle.log_text.specs.Line.{counted, field_and_tab}
use Rattle.log_text.specs.BuildRecord.{output_fields}
use Rattle.seen.specs.declared.lines.One.{One}
use Rattle.seen.specs.declared.lines.One.TheVariants as one
use Rattle.seen.specs.declared.lines.Told.{Told}
use Rattle.seen.specs.declared.lines.Told.TheVariants.{Begun, Done, Read, Nothing}

-- behind this start the fields list these paths
abbrev pub ListsPaths : List (List ℕ) → ℕ → List (List ℕ) → Type 0
ListsPaths fields start paths = (after : List (List ℕ)) × (fields ≡ decimal start ∷ (counted paths ++ after))

-- the fields are of a record of this kind, which names these outputs first
abbrev pub NamesFirst : ℕ → List (List ℕ) → List (List ℕ) → List (List ℕ) → Type 0
NamesFirst kind fields outputs after = fields ≡ (kind ∷ []) ∷ (output_fields Two outputs ++ after)

-- the fields are these, and begin with the start
abbrev pub StartsSo : ℕ → List (List ℕ) → Type 0
StartsSo start fields = (rest : List (List ℕ)) × (fields ≡ decimal start ∷ rest)

-- what is told of these fields is what they say
abbrev pub IsTold : List (List ℕ) → Told → Type 0
IsTold fields (Begun outputs) = (after : List (List ℕ)) × NamesFirst 98 fields outputs.now after
IsTold fields (Done start outputs) = (after : List (List ℕ)) × NamesFirst 100 fields outputs.now after × StartsSo start after
IsTold fields (Read start paths) = (outputs : List (List ℕ)) × (after : List (List ℕ)) × NamesFirst 114 fields outputs after × ListsPaths after start paths.now
IsTold fields Nothing = Unit {0}

-- the bytes begin with the number 1, and with this output behind it
abbrev pub NamesOne : List ℕ → List ℕ → Type 0
NamesOne output bytes = (rest : List ℕ) × (bytes ≡ field_and_tab (49 ∷ []) ++ (field_and_tab output ++ rest))

-- the line begins with this kind, and names this output alone
abbrev pub BeginsWithOne : ℕ → List ℕ → List ℕ → Type 0
BeginsWithOne kind output line = (counted : List ℕ) × (line ≡ field_and_tab (kind ∷ []) ++ counted) × NamesOne output counted

-- what is told of this line is what it says
abbrev pub IsOneIn : List ℕ → One → Type 0
IsOneIn line (one.Begun output) = BeginsWithOne 98 output.now line
IsOneIn line (one.Done output) = BeginsWithOne 100 output.now line
