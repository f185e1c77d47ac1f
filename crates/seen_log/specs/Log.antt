-- The log of what was seen.
use Rattle.std.specs.Prelude.{ℕ, ◌==◌, max, if◌then◌else◌, List, [], ◌∷◌, Option, None, Some, map, bytes_eq}
use Rattle.std.specs.List.{fold}
use Rattle.std.specs.Option.{option_or}
use Rattle.log_text.specs.declared.form.Version.TheVariants.{Two}
use Rattle.log_text.specs.Form.{IsAppended}
use Rattle.log_text.specs.Text.{IsLogOf}
use Rattle.seen_log.specs.declared.note.Kind.{Kind}
use Rattle.seen_log.specs.declared.note.Kind.TheVariants.{Source, Made, Turned}
use Rattle.seen_log.specs.declared.note.Note.{Note}
use Rattle.seen_log.specs.declared.note.Noted.{Noted}
use Rattle.seen_log.specs.Record.{forms, noting}

-- ---- what records say

-- what the last record that names the path notes of it
abbrev pub noted_in_force : List Note → List ℕ → Option Noted
noted_in_force [] path = None
noted_in_force (r ∷ rest) path = option_or (noted_in_force rest path) (if bytes_eq r.path path then Some r.noted else None)

-- what the records note, in order
abbrev pub noteds : List Note → List Noted
noteds records = map (λ r. r.noted) records

-- the record behind others, in the place of the one that names its path
abbrev pub put_note : List Note → Note → List Note
put_note [] r = r ∷ []
put_note (n ∷ rest) r = if bytes_eq r.path n.path then noting n.path r.noted ∷ rest else n ∷ put_note rest r

-- what is in force for each path, in the order in which paths were named first
abbrev pub compaction : List Note → List Note
compaction records = fold put_note [] records

-- ---- numbers

-- the stamp that counts for what is as noted: the one that is given, or its own
abbrev pub counts_of : Noted → ℕ
counts_of noted = if noted.number == 0 then noted.stamp else noted.number

-- what the number of a build is to pass: what counts for an output; of sources only what is given, since the stamp of one may be of any time
abbrev pub passed_by : Kind → Noted → ℕ
passed_by Source noted = noted.number
passed_by Made noted = counts_of noted
passed_by Turned noted = noted.number

abbrev pub to_pass : Noted → ℕ
to_pass noted = passed_by noted.kind noted

-- the greatest number that is to be passed; 0 where nothing is noted
abbrev pub greatest_of : List Note → ℕ
greatest_of [] = 0
greatest_of (r ∷ rest) = max (to_pass r.noted) (greatest_of rest)

-- ---- texts

-- the text is the whole log of these records, in version 2
abbrev pub IsLog : List ℕ → List Note → Type 0
IsLog text records = IsLogOf (forms Two) text records

-- the line of this record, which has one in version 2, was written behind the old text
abbrev pub Appends : Note → List ℕ → List ℕ → Type 0
Appends r old new = IsAppended (forms Two) r old new

-- so was the line that this is noted of the path
abbrev pub Notes : List ℕ → Noted → List ℕ → List ℕ → Type 0
Notes path noted old new = Appends (noting path noted) old new
