-- Each call of a site keeps the notes true. Statements that this crate proves.
use Rattle.std.specs.Prelude.{◌≡◌, ℕ, Bool, true, false, List, [], ◌++◌, Option, Some, None, bytes_eq}
use Rattle.model.specs.declared.act.Act.{Act}
use Rattle.model.specs.declared.event.Moment.{Moment}
use Rattle.model.specs.declared.event.Moment.TheVariants.{Wrote, Happened}
use Rattle.model.specs.declared.event.Writer.TheVariants.{Program, Command, Someone}
use Rattle.model.specs.World.{World}
use Rattle.model.specs.Calls.{OnlyLooks, Writes, Appends, Ticks, Starts, Finishes, IsRestart}
use Rattle.model.specs.Premises.{AllSince}
use Rattle.seen_true.specs.Notes.{Course, NotesAreKept, NotesAreTrue, grown, real}

-- no command and nobody else writes the path
abbrev pub IsLeftByOthers : List ℕ → Moment → Type 0
IsLeftByOthers p (Wrote Program path content stamp) = Unit {0}
IsLeftByOthers p (Wrote (Command job) path content stamp) = bytes_eq path p ≡ false
IsLeftByOthers p (Wrote Someone path content stamp) = bytes_eq path p ≡ false
IsLeftByOthers p (Happened event) = Unit {0}

-- the program does not write the path
abbrev pub IsLeftByProgram : List ℕ → Moment → Type 0
IsLeftByProgram p (Wrote Program path content stamp) = bytes_eq path p ≡ false
IsLeftByProgram p (Wrote (Command job) path content stamp) = Unit {0}
IsLeftByProgram p (Wrote Someone path content stamp) = Unit {0}
IsLeftByProgram p (Happened event) = Unit {0}

abbrev pub NotesAreLeft : List ℕ → List Moment → List Moment → Type 0
NotesAreLeft seen old new = AllSince (IsLeftByOthers seen) old new

-- the build went on to this history, with these in memory
pub record KeepsOn (c : Course) (base : Option (List ℕ)) (lines : List ℕ) (new : List Moment) : Type 0 where
  pub more : List Moment
  pub goes_on : new ≡ real (grown c more)
  pub keeps : NotesAreKept (grown c more) base lines

-- or it can end there
pub record EndsTrue (c : Course) (new : List Moment) : Type 0 where
  pub more : List Moment
  pub goes_on : new ≡ real (grown c more)
  pub notes : NotesAreTrue (grown c more)

-- a call of a build that has gone so far, in which nobody else writes the notes
pub record IsCallIn (c : Course) (old new : World) : Type 0 where
  pub so_far : old.history ≡ real c
  pub left : NotesAreLeft c.knows.seen old.history new.history

-- every call that does not write the notes
abbrev pub CallsKeepNotes : Type 0
CallsKeepNotes =
    (c : Course) (base : Option (List ℕ)) (lines : List ℕ) (old new : World) → IsCallIn c old new → NotesAreKept c base lines
    → (OnlyLooks true old new → KeepsOn c base lines new.history)
    × ((p : List ℕ) (content : Option (List ℕ)) → bytes_eq p c.knows.seen ≡ false → Writes true p content old new → KeepsOn c base lines new.history)
    × ((p bytes : List ℕ) → bytes_eq p c.knows.seen ≡ false → Appends true p bytes old new → KeepsOn c base lines new.history)
    × ((p : List ℕ) (stamp : ℕ) → bytes_eq p c.knows.seen ≡ false → Ticks true p stamp old new → KeepsOn c base lines new.history)
    × ((job : ℕ) (act : Act) → Starts true job act old new → KeepsOn c base lines new.history)
    × ((job : ℕ) (ok : Bool) → Finishes true job ok old new → KeepsOn c base lines new.history)
    × (IsRestart true old new → KeepsOn c base lines new.history)

-- and those that write them
abbrev pub NoteCallsKeepNotes : Type 0
NoteCallsKeepNotes =
    (c : Course) (lines : List ℕ) (old new : World) → IsCallIn c old new
    → (NotesAreKept c None lines → Appends true c.knows.seen lines old new → KeepsOn c None [] new.history)
    × ((part rest : List ℕ) → part ++ rest ≡ lines → NotesAreKept c None lines → Appends true c.knows.seen part old new → EndsTrue c new.history)
    × ((text : List ℕ) → NotesAreKept c (Some text) lines → Writes true c.knows.seen (Some text) old new
    → KeepsOn c None lines new.history × KeepsOn c (Some text) lines new.history)
