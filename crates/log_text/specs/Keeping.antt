-- What is said of what is kept of a log, whatever records it stands for.
use Rattle.std.specs.Prelude.{◌≡◌, ℕ, List, [], ◌∷◌, ◌++◌, Option, Some, slice_get, length}
use Rattle.std.specs.Option.{option_and_then}
use Rattle.log_text.specs.declared.form.Version.{Version}
use Rattle.log_text.specs.declared.tail.Tail.{Tail}
use Rattle.log_text.specs.Line.{line_text}
use Rattle.log_text.specs.Form.{Form, HasLine, HaveLines, lines_text}
use Rattle.log_text.specs.Text.{IsRead}
use Rattle.log_text.specs.Kept.{Saying, Table, IsTableOf, WantsCompaction}

-- which records (R) what is kept (L) stands for
abbrev pub Keeping : Type 0 → Type 0 → Type 1
Keeping R L = List R → L → Type 0

-- of whatever records it stands for, this is so
abbrev pub OfKept : {R L : Type 0} → Keeping R L → L → (List R → Type 0) → Type 0
OfKept {R} Keeps log P = (records : List R) → Keeps records log → P records

-- the same of a table
abbrev pub OfTable : {T : Type 0} → Table T → (List (Saying T) → Type 0) → Type 0
OfTable table P = OfKept IsTableOf table P

-- it stands for the same records as before
abbrev pub KeepsSame : {R L : Type 0} → Keeping R L → L → L → Type 0
KeepsSame {R} Keeps old new = (records : List R) → Keeps records old → Keeps records new

-- it stands for the same records as before, and this one behind them
abbrev pub KeepsAlso : {R L : Type 0} → Keeping R L → R → L → L → Type 0
KeepsAlso {R} Keeps r old new = (records : List R) → Keeps records old → Keeps (records ++ r ∷ []) new

-- the fields are those of a record, which was put at the end
abbrev pub PutsFields : {R L : Type 0} → Form R → Keeping R L → List (List ℕ) → L → L → Type 0
PutsFields {R} form Keeps fields old new = (r : R) × (fields ≡ form.fields r) × form.Fits r × KeepsAlso Keeps r old new

-- the line is a record's, which was put at the end
abbrev pub PutsLine : {R L : Type 0} → Form R → Keeping R L → List ℕ → L → L → Type 0
PutsLine {R} form Keeps line old new = (r : R) × (line ≡ line_text (form.fields r)) × HasLine form r × KeepsAlso Keeps r old new

-- the lines are those of records, and what is kept stands for them
abbrev pub KeepsLines : {R L : Type 0} → Form R → Keeping R L → List ℕ → L → Type 0
KeepsLines {R} form Keeps lines log = (all : List R) × (lines ≡ lines_text form all) × HaveLines form all × Keeps all log

-- it stands for the same records as before, and these behind them
abbrev pub KeepsMore : {R L : Type 0} → Keeping R L → List R → L → L → Type 0
KeepsMore {R} Keeps more old new = (records : List R) → Keeps records old → Keeps (records ++ more) new

-- the lines are those of records, which were put at the end
abbrev pub PutsLines : {R L : Type 0} → Form R → Keeping R L → List ℕ → L → L → Type 0
PutsLines {R} form Keeps lines old new = (all : List R) × (lines ≡ lines_text form all) × HaveLines form all × KeepsMore Keeps all old new

-- what is kept stands for the records of the bytes, which end so
abbrev pub IsParsed : {R L : Type 0} → (Version → Form R) → Keeping R L → List ℕ → L → Tail → Type 0
IsParsed {R} forms Keeps bytes log tail = (records : List R) × IsRead forms bytes records tail × Keeps records log

-- what stands in a list at the number that was found
abbrev pub at_number : {X : Type 0} → List X → Option ℕ → Option X
at_number xs number = option_and_then (slice_get xs) number

-- a log of these records, of which those are in force, is to be compacted
abbrev pub IsToCompact : {A B : Type 0} → List A → List B → Type 0
IsToCompact all in_force = WantsCompaction (length all) (length in_force)

-- the output with this number was said this of: a record more
abbrev pub PutsOne : {T : Type 0} → ℕ → Option T → Table T → Table T → Type 0
PutsOne number said old new = (text : List ℕ) → slice_get old.outputs number ≡ Some text → KeepsAlso IsTableOf (text ∷ [], said) old new

-- the texts with these numbers are not the same
abbrev pub AreOther : List (List ℕ) → ℕ → ℕ → Type 0
AreOther texts first second = (a b : List ℕ) → slice_get texts first ≡ Some a → slice_get texts second ≡ Some b → a ≡ b → ⊥

-- the outputs with these two numbers were said this of, where they are not the same: a record more
abbrev pub PutsTwo : {T : Type 0} → ℕ → ℕ → Option T → Table T → Table T → Type 0
PutsTwo first second said old new =
    (a b : List ℕ) → slice_get old.outputs first ≡ Some a → slice_get old.outputs second ≡ Some b → (a ≡ b → ⊥) → KeepsAlso IsTableOf (a ∷ b ∷ [], said) old new
