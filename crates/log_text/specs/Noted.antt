-- What is guessed of texts by number.
use Rattle.std.specs.Prelude.{◌≡◌, ◌<◌, ◌≤◌, ℕ, List, [], Option, Some, None, length, slice_get}
use Rattle.log_text.specs.Line.{IsPlain}
use Rattle.log_text.specs.declared.texts.Note.{Note}
use Rattle.log_text.specs.declared.texts.Guess.{Guess}
use Rattle.log_text.specs.declared.texts.Run.{Run}
use Rattle.log_text.specs.Taken.{AreTakenFrom}

-- the number is that of a text of which no byte is written as two
abbrev pub IsPlainAt : List (List ℕ) → ℕ → Type 0
IsPlainAt texts number = (text : List ℕ) × (slice_get texts number ≡ Some text) × IsPlain text

abbrev pub IsGuessIn : List (List ℕ) → Option Guess → Type 0
IsGuessIn texts None = Unit {0}
IsGuessIn texts (Some guess) = IsPlainAt texts guess.number

-- the guesses of a note are of plain texts
pub record IsNoteIn (texts : List (List ℕ)) (note : Note) : Type 0 where
  pub next : IsGuessIn texts note.next
  pub other : IsGuessIn texts note.other

-- so are those of all notes
abbrev pub AreNotesOf : List (List ℕ) → List Note → Type 0
AreNotesOf texts notes = (n : ℕ) (note : Note) → slice_get notes n ≡ Some note → IsNoteIn texts note

-- the bytes of a run are the fields of the texts with its numbers
abbrev pub AreRunsOf : List (List ℕ) → List Run → Type 0
AreRunsOf texts runs = (n : ℕ) (run : Run) → slice_get runs n ≡ Some run → AreTakenFrom texts run.bytes (length run.numbers) run.numbers []

-- what is noted of texts: guesses by the text in front, runs, and guesses by a sum
abbrev pub AreNoted : List (List ℕ) → List Note → List Run → List Note → Type 0
AreNoted texts notes runs table = AreNotesOf texts notes × AreRunsOf texts runs × AreNotesOf texts table

-- the fields of texts with these numbers, one at least and so many at most, stand in front of the bytes, and the rest behind them
pub record IsRunFrom (known : List (List ℕ)) (bytes : List ℕ) (most : ℕ) (numbers rest : List ℕ) : Type 0 where
  pub taken : AreTakenFrom known bytes (length numbers) numbers rest
  pub some : 0 < length numbers
  pub few : length numbers ≤ most
