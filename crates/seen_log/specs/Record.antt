-- The records of the log of what was seen, and their lines.
use Rattle.std.specs.Prelude.{◌≡◌, ◌<◌, ◌^◌, ℕ, List, [], ◌∷◌, ◌++◌, decimal, codes}
use Rattle.log_text.specs.declared.form.Version.{Version}
use Rattle.log_text.specs.declared.form.Version.TheVariants.{One, Two}
use Rattle.log_text.specs.Form.{Form, HasLine, record_line}
use Rattle.log_text.specs.Line.{field_and_tab, line_text}
use Rattle.seen_log.specs.declared.note.Kind.{Kind}
use Rattle.seen_log.specs.declared.note.Kind.TheVariants.{Source, Made, Turned}
use Rattle.seen_log.specs.declared.note.Note.{Note}
use Rattle.seen_log.specs.declared.note.Noted.{Noted}
use Rattle.seen_log.specs.declared.note.Numbers.{Numbers}

-- `s`, `m` or `t`
abbrev pub letter : Kind → ℕ
letter Source = 115
letter Made = 109
letter Turned = 116

-- a stamp, a size and a number
abbrev pub noted_fields : Noted → List (List ℕ)
noted_fields noted = decimal noted.stamp ∷ decimal noted.size ∷ decimal noted.number ∷ []

-- the kind, the path, and what is noted of it
abbrev pub fields_of : Note → List (List ℕ)
fields_of r = (letter r.noted.kind ∷ []) ∷ r.path ∷ noted_fields r.noted

-- all three are numbers below 2 to the 64
pub record IsLow (noted : Noted) : Type 0 where
  pub stamp : noted.stamp < 2 ^ 64
  pub size : noted.size < 2 ^ 64
  pub number : noted.number < 2 ^ 64

abbrev pub first_line : Version → List ℕ
first_line One = codes "nj-seen 1"
first_line Two = codes "nj-seen 2"

abbrev pub forms : Version → Form Note
forms version = record { first = first_line version; fields = fields_of; Fits = λ r. IsLow r.noted }

-- that this is noted of the path
abbrev pub noting : List ℕ → Noted → Note
noting path noted = record { path = path; noted = noted }

-- the fields tell this
abbrev pub Tell : List (List ℕ) → List ℕ → Noted → Type 0
Tell fields path noted = (fields ≡ fields_of (noting path noted)) × IsLow noted

-- these three numbers, as fields
abbrev pub number_fields : Numbers → List (List ℕ)
number_fields numbers = decimal numbers.stamp ∷ decimal numbers.size ∷ decimal numbers.number ∷ []

pub record AreLow (numbers : Numbers) : Type 0 where
  pub stamp : numbers.stamp < 2 ^ 64
  pub size : numbers.size < 2 ^ 64
  pub number : numbers.number < 2 ^ 64

-- the fields behind the path are those of these numbers
abbrev pub AreNoted : List (List ℕ) → Numbers → Type 0
AreNoted fields numbers = (fields ≡ number_fields numbers) × AreLow numbers

-- they are those of none
abbrev pub AreNotNoted : List (List ℕ) → Type 0
AreNotNoted fields = (numbers : Numbers) → AreLow numbers → fields ≡ number_fields numbers → ⊥

-- the text is no kind's letter
abbrev pub IsNoKind : List ℕ → Type 0
IsNoKind text = (kind : Kind) → text ≡ letter kind ∷ [] → ⊥

-- the fields are no record's
abbrev pub IsNoRecord : List (List ℕ) → Type 0
IsNoRecord fields = (other : Note) → IsLow other.noted → fields ≡ fields_of other → ⊥

-- the line, without its line feed, is that of this record, in either version
abbrev pub IsLineOfNote : List ℕ → Note → Type 0
IsLineOfNote line r = (line ≡ line_text (fields_of r)) × ((version : Version) → HasLine (forms version) r)

-- the text begins with the line of this record, which has one in version 2, and this stands behind its line feed
abbrev pub IsLineFirst : List ℕ → Note → List ℕ → Type 0
IsLineFirst text r rest = (text ≡ record_line (forms Two) r ++ rest) × HasLine (forms Two) r

-- the bytes begin with the fields of these numbers, and this stands behind them
abbrev pub AreNumbersFirst : List ℕ → Numbers → List ℕ → Type 0
AreNumbersFirst bytes numbers rest =
    bytes ≡ field_and_tab (decimal numbers.stamp) ++ (field_and_tab (decimal numbers.size) ++ (field_and_tab (decimal numbers.number) ++ rest))
