-- What holds of the text of each log.
use Rattle.std.specs.Prelude.{◌≡◌, ◌<◌, ◌^◌, ℕ, List, ◌∷◌, [], ◌++◌, ◌⊎◌, Option, Some, None, decimal}
use Rattle.log_text.specs.declared.form.Version.{Version}
use Rattle.log_text.specs.declared.tail.Tail.{Tail}
use Rattle.log_text.specs.declared.tail.Tail.TheVariants.{Whole, Old, Torn, Damaged}
use Rattle.log_text.specs.Line.{field_text, line_text, HaveSomeListFirst, HaveNoListFirst}
use Rattle.log_text.specs.Form.{Form, lines_text, HaveLines, IsLineOf}
use Rattle.log_text.specs.Text.{IsLogOf, IsEnded, IsTornOf, IsRead, EndsLine}
use Rattle.log_text.specs.Kept.{AreDistinct}
use Rattle.log_text.specs.BuildRecord.{HaveSomeOutputsFirst, HaveNoOutputsFirst}

-- bytes are read in one way
abbrev pub OneReading : {R : Type 0} → (Version → Form R) → Type 0
OneReading {R} forms = (bytes : List ℕ) (a b : List R) (s t : Tail) → IsRead forms bytes a s → IsRead forms bytes b t → (a ≡ b) × (s ≡ t)

-- all bytes can be read
abbrev pub EachIsRead : {R : Type 0} → (Version → Form R) → Type 0
EachIsRead {R} forms = (bytes : List ℕ) → (records : List R) × (tail : Tail) × IsRead forms bytes records tail

-- what is told of bytes that end so; nothing of damaged ones
abbrev pub told_at : {R : Type 0} → Tail → List R → Option (List R)
told_at Whole records = Some records
told_at Old records = Some records
told_at Torn records = Some records
told_at Damaged records = None

-- the function tells of all bytes what their reading is
abbrev pub Reads : {R : Type 0} → (Version → Form R) → (List ℕ → Option (List R)) → Type 0
Reads {R} forms reader = (bytes : List ℕ) (records : List R) (tail : Tail) → IsRead forms bytes records tail → reader bytes ≡ told_at tail records

-- there is a function that reads so
abbrev pub HasReader : {R : Type 0} → (Version → Form R) → Type 0
HasReader {R} forms = (reader : List ℕ → Option (List R)) × Reads forms reader

-- of a compaction the same is in force as of the records, and of none nothing
pub record KeepsInForce {R X : Type 0} (in_force : List R → List ℕ → Option X) (compaction : List R → List R) : Type 0 where
  pub nothing : (output : List ℕ) → in_force [] output ≡ None
  pub same : (records : List R) (output : List ℕ) → in_force (compaction records) output ≡ in_force records output

-- ---- parts of records

-- the number below 2 to the 64 that the text spells, or that it spells none
abbrev pub IsNumberOrNone : List ℕ → Type 0
IsNumberOrNone text = ((n : ℕ) × (n < 2 ^ 64) × (text ≡ decimal n)) ⊎ ((n : ℕ) → n < 2 ^ 64 → text ≡ decimal n → ⊥)

-- the counted list that the fields begin with, or that they begin with none
abbrev pub AreCountedOrNone : List (List ℕ) → Type 0
AreCountedOrNone fields = HaveSomeListFirst fields ⊎ HaveNoListFirst fields

-- the outputs that the fields begin with, or that they begin with none
abbrev pub AreOutputsOrNone : Version → List (List ℕ) → Type 0
AreOutputsOrNone version fields = HaveSomeOutputsFirst version fields ⊎ HaveNoOutputsFirst version fields

-- what parts of records stand in fields can be told
pub record PartsAreDecided : Type 0 where
  pub number : (text : List ℕ) → IsNumberOrNone text
  pub list : (fields : List (List ℕ)) → AreCountedOrNone fields
  pub outputs : (version : Version) (fields : List (List ℕ)) → AreOutputsOrNone version fields
  pub distinct : (paths : List (List ℕ)) → AreDistinct paths ⊎ (AreDistinct paths → ⊥)

-- ---- the text

-- a field is of one text, and a line of one list of texts
abbrev pub OneSpelling : Type 0
OneSpelling = ((a b : List ℕ) → field_text a ≡ field_text b → a ≡ b) × ((a b : List (List ℕ)) → line_text a ≡ line_text b → a ≡ b)

-- a log with a record's line behind it is the log of the records and this one
abbrev pub LineGrowsLog : {R : Type 0} → (Version → Form R) → Type 0
LineGrowsLog {R} forms =
    (version : Version) (text line : List ℕ) (records : List R) (r : R) → IsLogOf (forms version) text records → IsLineOf (forms version) r line → IsLogOf (forms version) (text ++ line) (records ++ r ∷ [])

-- bytes that end with a line feed, or are none, are a log of the records; others a torn one
abbrev pub IsEndedOrTorn : {R : Type 0} → Form R → List ℕ → List R → Type 0
IsEndedOrTorn form bytes records = (EndsLine bytes × IsEnded form bytes records) ⊎ ((EndsLine bytes → ⊥) × IsTornOf form bytes records)

-- what a beginning of a log tells: the records of its whole lines
pub record TellsFront {R : Type 0} (form : Form R) (bytes : List ℕ) (all : List R) : Type 0 where
  pub seen : List R
  pub left : List R
  pub split : all ≡ seen ++ left
  pub ends : IsEndedOrTorn form bytes seen

-- each beginning of a log tells a beginning of its records
abbrev pub FrontOfLog : {R : Type 0} → (Version → Form R) → Type 0
FrontOfLog {R} forms = (version : Version) (bytes rest : List ℕ) (all : List R) → IsLogOf (forms version) (bytes ++ rest) all → TellsFront (forms version) bytes all

-- where lines were put behind a log, but for an end of them, all old records are told, and then a beginning of the new ones
abbrev pub FrontOfLines : {R : Type 0} → (Version → Form R) → Type 0
FrontOfLines {R} forms =
    (version : Version) (text bytes rest : List ℕ) (old new : List R) → IsLogOf (forms version) text old → HaveLines (forms version) new → lines_text (forms version) new ≡ bytes ++ rest
    → (seen : List R) × (left : List R) × (new ≡ seen ++ left) × IsEndedOrTorn (forms version) (text ++ bytes) (old ++ seen)
