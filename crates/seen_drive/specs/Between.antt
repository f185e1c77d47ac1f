-- What is supposed of others between two builds, write by write. All is this project's own.
use Rattle.std.specs.Prelude.{◌≡◌, ◌⊎◌, ℕ, ◌<◌, Bool, true, false, List, ◌++◌, Option, Some, None, bytes_eq, drop, length}
use Rattle.std.specs.List.{AllByRecursion}
use Rattle.model.specs.declared.event.Moment.{Moment}
use Rattle.model.specs.declared.event.Moment.TheVariants.{Wrote, Happened}
use Rattle.model.specs.World.{World, File, file_at, view_of}
use Rattle.model.specs.Records.{LogFormat, Made, OwnFiles}
use Rattle.seen_log.specs.declared.note.Noted.{Noted}
use Rattle.seen_law.specs.Meanwhile.{recorded_at}
use Rattle.seen_true.specs.Between.{ComesBehind, told_at}
use Rattle.seen_true.specs.Calls.{IsLeftByOthers}
use Rattle.seen_true.specs.Counting.{Knowing, is_turned, no_size}
use Rattle.seen_true.specs.Going.{Entered, NotesStand, course, entering, since_asked}
use Rattle.seen_true.specs.Notes.{Stood}
use Rattle.seen_true.specs.Others.{IsAs, StandsStill}
use Rattle.seen_true.specs.Soundly.{IsLaterThanRecords}

-- ---- one write

-- it is of no log, and not of the notes
abbrev pub IsApart : OwnFiles → Entered → List ℕ → Type 0
IsApart own e p = (bytes_eq p own.build_log ≡ false) × (bytes_eq p own.deps_log ≡ false) × (bytes_eq p e.knows.seen ≡ false)

-- nothing is noted of the path when the next build begins, or it is one of the program's own files
abbrev pub IsUnnoted : (e next : Entered) → List ℕ → Type 0
IsUnnoted e next p = (e.knows.is_own p ≡ true) ⊎ (next.knows.noted p ≡ None)

-- THE FILE IS SEEN TO BE ANOTHER one: it has not the stamp and the size that are noted of its path. Where nothing is noted, its stamp is later than
-- the records, and it is no output that has one. Nor is it an output with a record that no line makes any more.
pub record IsSeen (format : LogFormat) (own : OwnFiles) (e : Entered) (exit : World) (next : Entered) (p : List ℕ) (file : File) : Type 0 where
  pub other : (n : Noted) → next.knows.noted p ≡ Some n → IsAs n file → ⊥
  pub later : IsUnnoted e next p → IsLaterThanRecords format own (told_at e exit) file.stamp
  pub unmade : (made : Made) → IsUnnoted e next p → recorded_at format own (told_at e exit) p ≡ Some made → ⊥
  pub made_still : (made : Made) (n : Noted) → next.knows.noted p ≡ Some n → recorded_at format own (told_at e exit) p ≡ Some made → next.knows.is_output p ≡ true

-- anybody may delete what is no log, and put there what is seen to be another
abbrev pub IsSeenWrite : LogFormat → OwnFiles → Entered → World → Entered → Moment → Type 0
IsSeenWrite format own e exit next (Wrote by p None stamp) = IsApart own e p
IsSeenWrite format own e exit next (Wrote by p (Some content) stamp) = IsApart own e p × IsSeen format own e exit next p (record { content = content; stamp = stamp })
IsSeenWrite format own e exit next (Happened event) = Unit {0}

-- ---- from one build to the next

-- what has happened goes on
abbrev pub GoesOnTo : (old new : List Moment) → Type 0
GoesOnTo old new = new ≡ old ++ drop (length old) new

-- WHAT OTHERS DID. Nobody but the program wrote the notes in that build, since it was asked for, nor while the next one read them. What stands at a path
-- at its end and looks as a file that stood there in it is that file. Between the two each write is seen. And of what stands there since: no file is
-- as large as what is absent is noted; an output with a record that no line makes any more, and that is not as noted, is as it was told; and what
-- counted as absent, since somebody had written it at a time at which no line made it, is still made by a line.
pub record OthersAreSeen (format : LogFormat) (own : OwnFiles) (e : Entered) (exit : World) (next : Entered) : Type 0 where
  pub left : AllByRecursion (IsLeftByOthers e.knows.seen) (since_asked e exit)
  pub read : AllByRecursion (IsLeftByOthers next.knows.seen) (entering next)
  pub meanwhile : (p : List ℕ) (file : File) → e.knows.is_own p ≡ false → Stood (course e exit) p (Some file) → StandsStill (course e exit) p file
  pub writes : AllByRecursion (IsSeenWrite format own e exit next) (drop (length exit.history) next.first)
  pub small : (p : List ℕ) (file : File) → e.knows.is_own p ≡ false → file_at next.first p ≡ Some file → length file.content < no_size
  pub dropped : (o : List ℕ) (made : Made) (n : Noted) (file : File) → recorded_at format own (told_at e exit) o ≡ Some made → next.knows.noted o ≡ Some n
      → next.knows.is_output o ≡ false → file_at exit.history o ≡ Some file → (IsAs n file → ⊥) → view_of (told_at e exit) o ≡ Some file.content
  pub turned : (p : List ℕ) (n : Noted) (file : File) → next.knows.noted p ≡ Some n → file_at exit.history p ≡ Some file → IsAs n file → is_turned n.kind ≡ true
      → e.knows.is_output p ≡ true → next.knows.is_output p ≡ true

-- Then the next build comes behind that one.
abbrev pub SeenComesBehind : Type 0
SeenComesBehind =
    (format : LogFormat) (own : OwnFiles) (e : Entered) (exit : World) (next : Entered) → NotesStand true e exit → GoesOnTo exit.history next.first
    → OthersAreSeen format own e exit next → ComesBehind format own e exit next
