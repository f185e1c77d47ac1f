-- The records of the deps log, and their lines.
use Rattle.std.specs.Prelude.{◌≡◌, ◌<◌, ◌^◌, ℕ, List, [], ◌∷◌, ◌++◌, decimal, length, codes}
use Rattle.std.specs.Borrow.{Bor}
use Rattle.model.specs.declared.record.DepsRecord.{DepsRecord}
use Rattle.log_text.specs.declared.form.Version.{Version}
use Rattle.log_text.specs.declared.form.Version.TheVariants.{One, Two}
use Rattle.log_text.specs.Line.{counted, fields_text}
use Rattle.log_text.specs.Form.{Form, IsAppended}
use Rattle.log_text.specs.Found.{texts_in}
use Rattle.log_text.specs.Kept.{AreDistinct}
use Rattle.log_text.specs.BuildRecord.{output_fields, HasRoomFor}

-- a start, how many paths there are, and the paths
abbrev pub told_fields : ℕ → List (List ℕ) → List (List ℕ)
told_fields start paths = decimal start ∷ counted paths

-- the fields in front of the paths, where there is one output
abbrev pub head_fields : List ℕ → ℕ → ℕ → List (List ℕ)
head_fields output start count = (114 ∷ []) ∷ (49 ∷ []) ∷ output ∷ decimal start ∷ decimal count ∷ []

-- `r`, the outputs, the start and the paths
abbrev pub fields_of : Version → DepsRecord → List (List ℕ)
fields_of version r = (114 ∷ []) ∷ (output_fields version r.outputs ++ told_fields r.start r.paths)

-- a record has an output, in version 1 just one, and none twice; a start is a number below 2 to the 64, and so is how many
-- paths there are
pub record IsRecord (version : Version) (r : DepsRecord) : Type 0 where
  pub room : HasRoomFor version r.outputs
  pub once : AreDistinct r.outputs
  pub start : r.start < 2 ^ 64
  pub paths : length r.paths < 2 ^ 64

abbrev pub first_line : Version → List ℕ
first_line One = codes "nj-deps 1"
first_line Two = codes "nj-deps 2"

abbrev pub forms : Version → Form DepsRecord
forms version = record { first = first_line version; fields = fields_of version; Fits = IsRecord version }

-- the record that a command of these outputs, started under this stamp, told that it read these paths
abbrev pub reported : List (List ℕ) → ℕ → List (List ℕ) → DepsRecord
reported outputs start paths = record { outputs = outputs; start = start; paths = paths }

-- these are its fields
abbrev pub AreFieldsOf : Version → DepsRecord → List (List ℕ) → Type 0
AreFieldsOf version r fields = (fields ≡ fields_of version r) × IsRecord version r

-- the fields tell this
abbrev pub Tell : Version → List (List ℕ) → List (List ℕ) → ℕ → List (List ℕ) → Type 0
Tell version fields outputs start paths = AreFieldsOf version (reported outputs start paths) fields

-- the fields behind the outputs are those of this start and these paths
abbrev pub AreTold : List (List ℕ) → ℕ → List (List ℕ) → Type 0
AreTold fields start paths = (fields ≡ told_fields start paths) × (start < 2 ^ 64) × (length paths < 2 ^ 64)

-- they are those of none
abbrev pub AreNotTold : List (List ℕ) → Type 0
AreNotTold fields = (start : ℕ) (ps : List (List ℕ)) → start < 2 ^ 64 → length ps < 2 ^ 64 → fields ≡ told_fields start ps → ⊥

-- what is written of the fields in front of the paths, and the rest behind them
abbrev pub headed : List ℕ → ℕ → ℕ → List ℕ → List ℕ
headed output start count rest = fields_text (head_fields output start count) ++ rest

-- the line of this record, which has one in version 2, was written behind the old text
abbrev pub Appends : DepsRecord → List ℕ → List ℕ → Type 0
Appends r old new = IsAppended (forms Two) r old new

-- so was the line of this start and these paths
abbrev pub Reports : List (Bor (List ℕ)) → ℕ → List (Bor (List ℕ)) → List ℕ → List ℕ → Type 0
Reports outputs start paths old new = Appends (reported (texts_in outputs) start (texts_in paths)) old new

-- the fields are no record's
abbrev pub IsNoRecord : Version → List (List ℕ) → Type 0
IsNoRecord version fields = (other : DepsRecord) → IsRecord version other → fields ≡ fields_of version other → ⊥
