-- From one build to the next, and what a site keeps as a field. Statements that this crate proves.
use Rattle.std.specs.Prelude.{◌≡◌, ℕ, Bool, false, IsTrue, List, [], ◌++◌, Option, Some, None, bytes_eq, drop, length}
use Rattle.std.specs.List.{AllByRecursion}
use Rattle.model.specs.declared.act.Act.{Act}
use Rattle.model.specs.declared.event.Moment.{Moment}
use Rattle.model.specs.declared.graph.Edge.{Edge}
use Rattle.model.specs.World.{World, File, IsIdle, file_at}
use Rattle.model.specs.Calls.{content_or_empty, OthersWrote, OnlyLooks, Writes, Appends, AppendsOrNot, Ticks, Starts, Finishes, IsRestart, WritesOrNot}
use Rattle.model.specs.Outcome.{Behaviour}
use Rattle.model.specs.Records.{LogFormat, OwnFiles}
use Rattle.model.specs.Faithful.{IsFaithfulStore}
use Rattle.log_text.specs.declared.form.Version.TheVariants.{Two}
use Rattle.log_text.specs.Form.{IsAppended}
use Rattle.seen_log.specs.declared.note.Kind.{Kind}
use Rattle.seen_log.specs.declared.note.Noted.{Noted}
use Rattle.seen_log.specs.Record.{forms, noting}
use Rattle.seen_law.specs.Retold.{BeginsSo, retold, stamp_told}
use Rattle.seen_law.specs.Laws.{started_so}
use Rattle.seen_law.specs.Meanwhile.{no_command, told_next}
use Rattle.seen_true.specs.Counting.{Knowing, no_size, telling}
use Rattle.seen_true.specs.Soundly.{IsLaterThanRecords, written_in}
use Rattle.seen_true.specs.Notes.{Course, IsWhole, NotesAreKept, NotesAreTrue, Stood, told}
use Rattle.seen_true.specs.Others.{OthersWroteSo, OwnFit, ReadsNotes}
use Rattle.seen_true.specs.Calls.{IsLeftByOthers, IsLeftByProgram}
use Rattle.seen_true.specs.Laws.{found_number, number_of}

-- ---- from one build to the next

-- what is told when the next build begins
abbrev pub told_then : Course → Knowing → List Moment → List Moment
told_then c next later = told_next (telling next) (told c) later (written_in (told c) ++ written_in later)

-- Where the notes were true at the end of a build, wherever it ended, and others wrote so, the next one begins with what counts, with faithful
-- records, and with true notes.
abbrev pub NextIsNoted : Type 0
NextIsNoted =
    (B : Behaviour) (format : LogFormat) (own : OwnFiles) (edges others : List Edge) (c : Course) (next : Knowing) (last entry : World) → ∥ NotesAreTrue c ∥₁
    → last.history ≡ told c → IsIdle entry.events → OwnFit own c.knows next → ReadsNotes next entry.history → OthersWroteSo format own c next entry.history
    → IsLaterThanRecords format own (told c) next.number → IsFaithfulStore B format own edges last
    → BeginsSo (telling next) entry.history (told_then c next entry.history)
    × OthersWrote no_command (told c) (told_then c next entry.history)
    × IsFaithfulStore B format own others (retold (telling next) entry.history (told_then c next entry.history) [] entry)
    × NotesAreTrue (record { knows = next; first = entry.history; before = told_then c next entry.history; more = [] })

-- ---- what a site keeps

-- how a build began: what it knew, what had happened when it was asked for, before it read the notes, and what when it began, and what was told of that
pub record Entered : Type 0 where
  pub knows : Knowing
  pub asked : List Moment
  pub first : List Moment
  pub before : List Moment

-- what happened while it read the notes, and until it began
abbrev pub entering : Entered → List Moment
entering e = drop (length e.asked) e.first

-- what happened since
abbrev pub since : Entered → World → List Moment
since e world = drop (length e.first) world.history

-- what happened since it was asked for
abbrev pub since_asked : Entered → World → List Moment
since_asked e world = entering e ++ since e world

abbrev pub course : Entered → World → Course
course e world = record { knows = e.knows; first = e.first; before = e.before; more = since e world }

-- The history goes on; and where nobody else wrote the notes since the build was asked for, they are kept.
pub record Notes (tells : Bool) (e : Entered) (base : Option (List ℕ)) (lines : List ℕ) (world : World) : Type 0 where
  pub goes_on : IsTrue tells → world.history ≡ e.first ++ since e world
  pub kept : IsTrue tells → AllByRecursion (IsLeftByOthers e.knows.seen) (since_asked e world) → ∥ NotesAreKept (course e world) base lines ∥₁

-- the same where nothing can be put behind them any more
pub record NotesStand (tells : Bool) (e : Entered) (world : World) : Type 0 where
  pub goes_on : IsTrue tells → world.history ≡ e.first ++ since e world
  pub kept : IsTrue tells → AllByRecursion (IsLeftByOthers e.knows.seen) (since_asked e world) → ∥ NotesAreTrue (course e world) ∥₁

-- every call that does not write the notes keeps them, on every site
abbrev pub CallsNote : Type 0
CallsNote =
    (tells : Bool) (e : Entered) (base : Option (List ℕ)) (lines : List ℕ) (old new : World) → Notes tells e base lines old
    → (OnlyLooks tells old new → Notes tells e base lines new)
    × ((p : List ℕ) (content : Option (List ℕ)) → bytes_eq p e.knows.seen ≡ false → Writes tells p content old new → Notes tells e base lines new)
    × ((p bytes : List ℕ) → bytes_eq p e.knows.seen ≡ false → Appends tells p bytes old new → Notes tells e base lines new)
    × ((p : List ℕ) (stamp : ℕ) → bytes_eq p e.knows.seen ≡ false → Ticks tells p stamp old new → Notes tells e base lines new)
    × ((job : ℕ) (act : Act) → Starts tells job act old new → Notes tells e base lines new)
    × ((job : ℕ) (ok : Bool) → Finishes tells job ok old new → Notes tells e base lines new)
    × (IsRestart tells old new → Notes tells e base lines new)

abbrev pub CallsStand : Type 0
CallsStand =
    (tells : Bool) (e : Entered) (old new : World) → NotesStand tells e old
    → (OnlyLooks tells old new → NotesStand tells e new)
    × ((p : List ℕ) (content : Option (List ℕ)) → bytes_eq p e.knows.seen ≡ false → Writes tells p content old new → NotesStand tells e new)
    × ((p bytes : List ℕ) → bytes_eq p e.knows.seen ≡ false → Appends tells p bytes old new → NotesStand tells e new)
    × ((p : List ℕ) (stamp : ℕ) → bytes_eq p e.knows.seen ≡ false → Ticks tells p stamp old new → NotesStand tells e new)
    × ((job : ℕ) (act : Act) → Starts tells job act old new → NotesStand tells e new)
    × ((job : ℕ) (ok : Bool) → Finishes tells job ok old new → NotesStand tells e new)
    × (IsRestart tells old new → NotesStand tells e new)

-- an append to them that is done, one that fails, and a replacement that is done or fails
abbrev pub NoteCallsNote : Type 0
NoteCallsNote =
    (tells : Bool) (e : Entered) (lines : List ℕ) (old new : World)
    → (Notes tells e None lines old → Appends tells e.knows.seen lines old new → Notes tells e None [] new)
    × (Notes tells e None lines old → AppendsOrNot tells e.knows.seen lines old new → NotesStand tells e new)
    × ((text : List ℕ) → Notes tells e (Some text) lines old → Writes tells e.knows.seen (Some text) old new → Notes tells e None lines new)
    × ((text : List ℕ) → Notes tells e (Some text) lines old → WritesOrNot tells e.knows.seen (Some text) old new → Notes tells e (Some text) lines new)

-- ---- what gets a line

-- a file of this stamp and this size was found at the path at some moment of a call
pub record FindsFile (p : List ℕ) (stamp size : ℕ) (old new : List Moment) : Type 0 where
  pub earlier : List Moment
  pub later : List Moment
  pub grows : new ≡ old ++ (earlier ++ later)
  pub file : File
  pub there : file_at (old ++ earlier) p ≡ Some file
  pub of_stamp : file.stamp ≡ stamp
  pub of_size : length file.content ≡ size

-- or of the build so far
pub record Found (c : Course) (p : List ℕ) (stamp size : ℕ) : Type 0 where
  pub file : File
  pub stood : Stood c p (Some file)
  pub of_stamp : file.stamp ≡ stamp
  pub of_size : length file.content ≡ size

abbrev pub FoundInCall : Type 0
FoundInCall =
    (tells : Bool) (e : Entered) (p : List ℕ) (stamp size : ℕ) (old new : World) → (IsTrue tells → old.history ≡ e.first ++ since e old)
    → (IsTrue tells → FindsFile p stamp size old.history new.history) → IsTrue tells → Found (course e new) p stamp size

-- nothing was found there at some moment of a call
pub record FindsNone (p : List ℕ) (old new : List Moment) : Type 0 where
  pub earlier : List Moment
  pub later : List Moment
  pub grows : new ≡ old ++ (earlier ++ later)
  pub none : file_at (old ++ earlier) p ≡ None

abbrev pub NoneInCall : Type 0
NoneInCall =
    (tells : Bool) (e : Entered) (p : List ℕ) (old new : World) → (IsTrue tells → old.history ≡ e.first ++ since e old)
    → (IsTrue tells → FindsNone p old.history new.history) → IsTrue tells → Stood (course e new) p None

-- this is noted by a line behind the others
abbrev pub Adds : List ℕ → Kind → (stamp size number : ℕ) → List ℕ → List ℕ → Type 0
Adds p kind stamp size number lines more = IsAppended (forms Two) (noting p (record { kind = kind; stamp = stamp; size = size; number = number })) lines more

-- What a look found gets a line under its number; and what was found gets one under which it counts as it is told.
abbrev pub LinesNote : Type 0
LinesNote =
    (tells : Bool) (e : Entered) (base : Option (List ℕ)) (lines more : List ℕ) (world : World) (p : List ℕ) (kind : Kind) (stamp size : ℕ)
    → Notes tells e base lines world → (IsTrue tells → Found (course e world) p stamp size)
    → ((since : Option ℕ) (number : ℕ) → (IsTrue tells → e.knows.is_own p ≡ false)
    → (IsTrue tells → found_number (e.knows.noted p) (e.knows.is_output p) e.knows.number since stamp size ≡ Some number)
    → Adds p kind stamp size number lines more → Notes tells e base more world)
    × ((counts : ℕ)
    → (IsTrue tells → (file : File) → file.stamp ≡ stamp → length file.content ≡ size
    → stamp_told ((telling e.knows).counts p file) (started_so (telling e.knows) (since e world) p) stamp ≡ Some counts)
    → Adds p kind stamp size (number_of counts stamp) lines more → Notes tells e base more world)

-- Where nothing was found, a line says so.
abbrev pub AbsenceNotes : Type 0
AbsenceNotes =
    (tells : Bool) (e : Entered) (base : Option (List ℕ)) (lines more : List ℕ) (world : World) (p : List ℕ) (kind : Kind)
    → Notes tells e base lines world → (IsTrue tells → Stood (course e world) p None) → Adds p kind 0 no_size 0 lines more → Notes tells e base more world

-- ---- when a site is made that notes

-- A whole log stands behind which lines may be put; or this text takes its place, which is one.
abbrev pub BaseIsWhole : (text : List ℕ) → (tells : List ℕ → Option Noted) → Option (List ℕ) → Type 0
BaseIsWhole text tells None = IsWhole text tells
BaseIsWhole text tells (Some base) = IsWhole base tells

-- What is known of notes is what is read of their file, where this is the history, and this is to take its place before a line is put behind it.
pub record EntersBy (k : Knowing) (base : Option (List ℕ)) (history : List Moment) : Type 0 where
  pub reads : ReadsNotes k history
  pub whole : BaseIsWhole (content_or_empty (file_at history k.seen)) k.noted base

-- It was so at some moment between these two, and behind that moment the program did not write the notes.
pub record EntersAt (k : Knowing) (base : Option (List ℕ)) (asked first : List Moment) : Type 0 where
  pub earlier : List Moment
  pub later : List Moment
  pub grows : first ≡ asked ++ (earlier ++ later)
  pub enters : EntersBy k base (asked ++ earlier)
  pub left : AllByRecursion (IsLeftByProgram k.seen) later

-- where what is told counts so, the notes are true, and nothing is to be put behind them yet
abbrev pub EntersNoted : Type 0
EntersNoted =
    (tells : Bool) (e : Entered) (base : Option (List ℕ)) (world : World) → (IsTrue tells → world.history ≡ e.first)
    → (IsTrue tells → BeginsSo (telling e.knows) e.first e.before) → (IsTrue tells → EntersAt e.knows base e.asked e.first) → Notes tells e base [] world

-- it is so when the build begins where nobody else wrote the notes meanwhile
abbrev pub EntersStay : Type 0
EntersStay =
    (e : Entered) (base : Option (List ℕ)) → EntersAt e.knows base e.asked e.first → AllByRecursion (IsLeftByOthers e.knows.seen) (entering e) → EntersBy e.knows base e.first
