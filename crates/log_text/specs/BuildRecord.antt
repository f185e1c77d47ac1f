-- The records of the build log, and their lines.
use Rattle.std.specs.Prelude.{◌≡◌, ◌<◌, ◌^◌, ℕ, List, [], ◌∷◌, ◌++◌, decimal, length, codes}
use Rattle.model.specs.declared.act.Act.{Act}
use Rattle.model.specs.declared.record.Record.{Record}
use Rattle.model.specs.declared.record.Record.TheVariants.{Begun, Done}
use Rattle.log_text.specs.declared.form.Version.{Version}
use Rattle.log_text.specs.declared.form.Version.TheVariants.{One, Two}
use Rattle.log_text.specs.declared.done.Done.{Done as DoneData}
use Rattle.log_text.specs.Line.{counted}
use Rattle.log_text.specs.Form.{Form}
use Rattle.log_text.specs.Kept.{AreDistinct}

abbrev pub act_fields : Act → List (List ℕ)
act_fields act = act.command ∷ act.depfile ∷ act.response_path ∷ act.response_content ∷ []

-- outputs as fields: in version 1 there is one, in version 2 their number stands in front
abbrev pub output_fields : Version → List (List ℕ) → List (List ℕ)
output_fields One outputs = outputs
output_fields Two outputs = counted outputs

-- `b` and the outputs; or `d`, the outputs, the start and the act
abbrev pub fields_of : Version → Record → List (List ℕ)
fields_of version (Begun outputs) = (98 ∷ []) ∷ output_fields version outputs
fields_of version (Done outputs start act) = (100 ∷ []) ∷ (output_fields version outputs ++ decimal start ∷ act_fields act)

abbrev pub outputs_of : Record → List (List ℕ)
outputs_of (Begun outputs) = outputs
outputs_of (Done outputs start act) = outputs

-- how many outputs a record may have
abbrev pub HasRoomFor : Version → List (List ℕ) → Type 0
HasRoomFor One outputs = length outputs ≡ 1
HasRoomFor Two outputs = (0 < length outputs) × (length outputs < 2 ^ 64)

-- the fields are those of these outputs, and others behind them
abbrev pub HaveOutputsFirst : Version → List (List ℕ) → List (List ℕ) → List (List ℕ) → Type 0
HaveOutputsFirst v outputs fields after = (fields ≡ output_fields v outputs ++ after) × HasRoomFor v outputs

abbrev pub HaveSomeOutputsFirst : Version → List (List ℕ) → Type 0
HaveSomeOutputsFirst v fields =
    (os : List (List ℕ)) × (after : List (List ℕ)) × (fields ≡ output_fields v os ++ after) × HasRoomFor v os

-- the fields begin with no outputs
abbrev pub HaveNoOutputsFirst : Version → List (List ℕ) → Type 0
HaveNoOutputsFirst v fields = (os after : List (List ℕ)) → HasRoomFor v os → fields ≡ output_fields v os ++ after → ⊥

-- a start is a number below 2 to the 64
abbrev pub HasStart : Record → Type 0
HasStart (Begun outputs) = Unit {0}
HasStart (Done outputs start act) = start < 2 ^ 64

-- a record has an output, in version 1 just one, and none twice
pub record IsRecord (version : Version) (r : Record) : Type 0 where
  pub room : HasRoomFor version (outputs_of r)
  pub once : AreDistinct (outputs_of r)
  pub start : HasStart r

abbrev pub first_line : Version → List ℕ
first_line One = codes "nj-log 1"
first_line Two = codes "nj-log 2"

abbrev pub forms : Version → Form Record
forms version = record { first = first_line version; fields = fields_of version; Fits = IsRecord version }

-- a start and an act as fields
abbrev pub done_fields : DoneData → List (List ℕ)
done_fields done = decimal done.start ∷ act_fields done.act

-- these are its fields, and the start has room
abbrev pub AreDone : DoneData → List (List ℕ) → Type 0
AreDone done fields = (fields ≡ done_fields done) × (done.start < 2 ^ 64)

-- the fields are no start and act
abbrev pub AreNotDone : List (List ℕ) → Type 0
AreNotDone fields = (done : DoneData) → done.start < 2 ^ 64 → fields ≡ done_fields done → ⊥

-- the fields are no record's
abbrev pub IsNoRecord : Version → List (List ℕ) → Type 0
IsNoRecord version fields = (other : Record) → IsRecord version other → fields ≡ fields_of version other → ⊥
