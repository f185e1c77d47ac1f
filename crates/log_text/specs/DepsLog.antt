-- The deps log.
use Rattle.std.specs.Prelude.{◌≡◌, ℕ, List, [], ◌∷◌, Option, None, Some, map}
use Rattle.std.specs.Option.{option_map, option_copied}
use Rattle.std.specs.Borrow.{Bor}
use Rattle.model.specs.declared.record.DepsRecord.{DepsRecord}
use Rattle.model.specs.Records.{Told}
use Rattle.log_text.specs.declared.form.Version.TheVariants.{Two}
use Rattle.log_text.specs.Kept.{Saying, Telling, Table, IsTableOf, AreNumbersOf, texts_at, in_force_of}
use Rattle.log_text.specs.Found.{texts_in}
use Rattle.log_text.specs.Text.{IsLogOf}
use Rattle.log_text.specs.declared.deps.Deps.{Deps}
use Rattle.log_text.specs.DepsRecordLine.{forms}

abbrev pub told_of_record : DepsRecord → Told
told_of_record r = record { start = r.start; paths = r.paths }

-- what a record says of its outputs
abbrev pub saying : DepsRecord → Saying Told
saying r = (r.outputs, Some (told_of_record r))

abbrev pub deps_record : Telling Told → DepsRecord
deps_record (outputs, told) = record { outputs = outputs; start = told.start; paths = told.paths }

-- the texts have these numbers: what is kept of a record says what the record says
abbrev pub IsSaidBy : List (List ℕ) → Saying Deps → DepsRecord → Type 0
IsSaidBy texts (outputs, None) r = ⊥
IsSaidBy texts (outputs, Some deps) r = (outputs ≡ r.outputs) × (deps.start ≡ r.start) × AreNumbersOf texts deps.paths r.paths

abbrev pub AreSaidBy : List (List ℕ) → List (Saying Deps) → List DepsRecord → Type 0
AreSaidBy texts [] [] = Unit {0}
AreSaidBy texts [] (r ∷ rs) = ⊥
AreSaidBy texts (s ∷ ss) [] = ⊥
AreSaidBy texts (s ∷ ss) (r ∷ rs) = IsSaidBy texts s r × AreSaidBy texts ss rs

-- what is kept stands for these records
pub record Keeps (records : List DepsRecord) (log : Table Deps) : Type 0 where
  pub all : List (Saying Deps)
  pub table : IsTableOf all log
  pub said : AreSaidBy log.outputs all records

-- what numbers tell, the texts being these
abbrev pub told_in : List (List ℕ) → Deps → Told
told_in texts deps = record { start = deps.start; paths = texts_at texts deps.paths }

-- what was found, as its numbers tell
abbrev pub told_found : Table Deps → Option (Bor Deps) → Option Told
told_found log found = option_map (told_in log.outputs) (option_copied found)

-- the record of what is in force for some outputs, the texts being these
abbrev pub record_in : List (List ℕ) → List (Bor (List ℕ)) × Bor Deps → DepsRecord
record_in texts t = record { outputs = texts_in t.0; start = t.1.now.start; paths = texts_at texts t.1.now.paths }

-- the text is the whole log of these records, in version 2
abbrev pub IsLog : List ℕ → List DepsRecord → Type 0
IsLog text records = IsLogOf (forms Two) text records

-- the records in force in the order of the log, each with those of its outputs for which it is in force
abbrev pub compaction : List DepsRecord → List DepsRecord
compaction records = map deps_record (in_force_of (map saying records))

-- what the records tell, in order
abbrev pub tolds : List DepsRecord → List Told
tolds records = map told_of_record records
