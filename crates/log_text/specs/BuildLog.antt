-- The build log.
use Rattle.std.specs.Prelude.{◌≡◌, ℕ, List, Option, Some, None, map}
use Rattle.std.specs.Borrow.{Bor}
use Rattle.std.specs.Option.{option_map, option_copied}
use Rattle.model.specs.declared.record.Record.{Record}
use Rattle.model.specs.declared.record.Record.TheVariants.{Begun, Done as DoneRecord}
use Rattle.model.specs.Records.{Made}
use Rattle.log_text.specs.declared.done.Done.{Done}
use Rattle.log_text.specs.declared.form.Version.{Version}
use Rattle.log_text.specs.declared.form.Version.TheVariants.{Two}
use Rattle.log_text.specs.Form.{IsAppended}
use Rattle.log_text.specs.Kept.{Saying, Telling, Table, IsTableOf, in_force_of, tellings}
use Rattle.log_text.specs.Text.{IsLogOf}
use Rattle.log_text.specs.BuildRecord.{forms, fields_of, IsRecord}

abbrev pub made_of : Done → Made
made_of done = record { act = done.act; start = done.start }

-- what a record says of its outputs
abbrev pub saying : Record → Saying Done
saying (Begun outputs) = (outputs, None)
saying (DoneRecord outputs start act) = (outputs, Some (record { start = start; act = act }))

abbrev pub done_record : Telling Done → Record
done_record (outputs, done) = DoneRecord outputs done.start done.act

-- what was found, as the record of a command
abbrev pub made_in : Option (Bor Done) → Option Made
made_in found = option_map made_of (option_copied found)

-- the fields are those of a record, which says this of these outputs
abbrev pub AreSaid : Version → List (List ℕ) → List (List ℕ) → Option Done → Type 0
AreSaid v fields outputs said = (r : Record) × (fields ≡ fields_of v r) × IsRecord v r × (saying r ≡ (outputs, said))

-- what is kept stands for these records
abbrev pub Keeps : List Record → Table Done → Type 0
Keeps records log = IsTableOf (map saying records) log

-- the text is the whole log of these records, in version 2
abbrev pub IsLog : List ℕ → List Record → Type 0
IsLog text records = IsLogOf (forms Two) text records

-- the line of this record, which has one in version 2, was written behind the old text
abbrev pub Appends : Record → List ℕ → List ℕ → Type 0
Appends r old new = IsAppended (forms Two) r old new

-- the done records in force in the order of the log, each with those of its outputs for which it is in force
abbrev pub compaction : List Record → List Record
compaction records = map done_record (in_force_of (map saying records))

-- what the done records say, in order
abbrev pub makings : List Record → List Made
makings records = map (λ t. made_of t.1) (tellings (map saying records))
