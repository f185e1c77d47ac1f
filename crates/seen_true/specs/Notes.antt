-- That the notes are true. It speaks of the program alone: whatever others do, each call keeps it. All is this project's own.
use Rattle.std.specs.Prelude.{◌≡◌, ℕ, ◌≤◌, List, [], ◌++◌, map, Option, Some, None, length}
use Rattle.std.specs.List.{AllByRecursion}
use Rattle.std.specs.Option.{option_or}
use Rattle.log_text.specs.declared.form.Version.TheVariants.{Two}
use Rattle.log_text.specs.declared.tail.Tail.{Tail}
use Rattle.log_text.specs.Form.{HaveLines, lines_text}
use Rattle.log_text.specs.Text.{IsLogOf, IsRead}
use Rattle.model.specs.declared.event.Moment.{Moment}
use Rattle.model.specs.World.{File, file_at}
use Rattle.model.specs.Calls.{content_or_empty}
use Rattle.seen_log.specs.declared.note.Kind.{Kind}
use Rattle.seen_log.specs.declared.note.Note.{Note}
use Rattle.seen_log.specs.declared.note.Noted.{Noted}
use Rattle.seen_log.specs.Log.{counts_of, noted_in_force}
use Rattle.seen_log.specs.Record.{forms, noting}
use Rattle.seen_law.specs.Retold.{BeginsSo, none_started, retell}
use Rattle.seen_law.specs.Laws.{told_then}
use Rattle.seen_true.specs.Counting.{Knowing, absence, telling}

-- ---- a build so far

-- what it knew when it began, the real history then, what was told of that, and what happened since
pub record Course : Type 0 where
  pub knows : Knowing
  pub first : List Moment
  pub before : List Moment
  pub more : List Moment

abbrev pub real : Course → List Moment
real c = c.first ++ c.more

abbrev pub told : Course → List Moment
told c = c.before ++ retell (telling c.knows) none_started (file_at c.first) c.more

-- this happened besides
abbrev pub grown : Course → List Moment → Course
grown c ms = record { knows = c.knows; first = c.first; before = c.before; more = c.more ++ ms }

-- what the file of the notes holds
abbrev pub notes_text : Course → List ℕ
notes_text c = content_or_empty (file_at (real c) c.knows.seen)

-- ---- what was seen

-- a file that was seen at a path in this build, or that there was none, and as what that is to be noted
pub record Sighting : Type 0 where
  pub path : List ℕ
  pub file : Option File
  pub kind : Kind
  pub number : ℕ

-- what is noted of what was seen
abbrev pub noted_of : Kind → (number : ℕ) → Option File → Noted
noted_of kind number None = absence kind
noted_of kind number (Some file) = record { kind = kind; stamp = file.stamp; size = length file.content; number = number }

abbrev pub note_of : Sighting → Note
note_of s = noting s.path (noted_of s.kind s.number s.file)

abbrev pub notes_of : List Sighting → List Note
notes_of sightings = map note_of sightings

-- the file stood at the path at some moment of the build, or none did
pub record Stood (c : Course) (p : List ℕ) (held : Option File) : Type 0 where
  pub earlier : List Moment
  pub later : List Moment
  pub splits : c.more ≡ earlier ++ later
  pub there : file_at (c.first ++ earlier) p ≡ held

-- where the file stands there, it is told under a stamp that is no later than the one that is noted to count for it
pub record IsToldBy (c : Course) (p : List ℕ) (noted : Noted) (file : File) : Type 0 where
  pub stamp : ℕ
  pub told : told_then (telling c.knows) c.more p (Some file) ≡ Some (record { content = file.content; stamp = stamp })
  pub no_later : stamp ≤ counts_of noted

-- of what is absent nothing is told
abbrev pub IsToldSo : Course → List ℕ → Noted → Option File → Type 0
IsToldSo c p noted None = Unit {0}
IsToldSo c p noted (Some file) = IsToldBy c p noted file

-- The note is true: that stood there at some moment of the build, or nothing did; and a file is told so.
pub record IsTrueNote (c : Course) (s : Sighting) : Type 0 where
  pub stood : Stood c s.path s.file
  pub so : IsToldSo c s.path (noted_of s.kind s.number s.file) s.file

abbrev pub AreTrue : Course → List Sighting → Type 0
AreTrue c sightings = AllByRecursion (IsTrueNote c) sightings

-- what is noted of a path by what was known at the beginning, and by these behind it
abbrev pub noted_by : Course → List Sighting → List ℕ → Option Noted
noted_by c sightings p = option_or (noted_in_force (notes_of sightings) p) (c.knows.noted p)

-- ---- the file of the notes

-- whatever it ends with, that is what is read of it
pub record AreRead (c : Course) (sightings : List Sighting) : Type 0 where
  pub records : List Note
  pub tail : Tail
  pub read : IsRead forms (notes_text c) records tail
  pub tells : (p : List ℕ) → noted_in_force records p ≡ noted_by c sightings p

-- THE NOTES ARE TRUE. The build began with what counts; what the file of the notes tells is what was known then, and what was seen since, which is
-- true. So it may end at any call.
pub record NotesAreTrue (c : Course) : Type 0 where
  pub begins : BeginsSo (telling c.knows) c.first c.before
  pub sightings : List Sighting
  pub all : AreTrue c sightings
  pub file : AreRead c sightings

-- ---- what is in memory

-- a whole log in version 2, behind which lines may be put, that tells this
pub record IsWhole (text : List ℕ) (tells : List ℕ → Option Noted) : Type 0 where
  pub records : List Note
  pub log : IsLogOf (forms Two) text records
  pub same : (p : List ℕ) → noted_in_force records p ≡ tells p

-- The text that takes the place of the notes before a line is put behind them tells what was known at the beginning, and nothing is noted yet;
-- where there is none, lines may be put behind the file as it is.
abbrev pub BaseFits : Course → List Sighting → Option (List ℕ) → Type 0
BaseFits c sightings None = IsWhole (notes_text c) (noted_by c sightings)
BaseFits c sightings (Some text) = (sightings ≡ []) × IsWhole text c.knows.noted

-- the lines that are still to be put there are of what was seen, and true
pub record ArePending (c : Course) (lines : List ℕ) : Type 0 where
  pub sightings : List Sighting
  pub all : AreTrue c sightings
  pub text : lines ≡ lines_text (forms Two) (notes_of sightings)
  pub have : HaveLines (forms Two) (notes_of sightings)

-- What a site keeps that notes what it sees: the notes are true, and it can go on so.
pub record NotesAreKept (c : Course) (base : Option (List ℕ)) (lines : List ℕ) : Type 0 where
  pub notes : NotesAreTrue c
  pub stands : BaseFits c notes.sightings base
  pub pending : ArePending c lines
