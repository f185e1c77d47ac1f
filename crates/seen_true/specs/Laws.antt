-- What is claimed of notes. Statements that this crate proves.
use Rattle.std.specs.Prelude.{◌≡◌, ℕ, ◌<◌, ◌≤◌, ◌+◌, ◌-◌, ◌^◌, ◌==◌, ◌&&◌, not, max, min, nat_lt, Bool, false, if◌then◌else◌, List, [], ◌∷◌, ◌++◌, Option, Some, None, length}
use Rattle.std.specs.List.{AllByRecursion}
use Rattle.log_text.specs.declared.form.Version.TheVariants.{Two}
use Rattle.log_text.specs.declared.tail.Tail.{Tail}
use Rattle.log_text.specs.Form.{HasLine, record_line}
use Rattle.log_text.specs.Text.{IsLogOf, IsRead}
use Rattle.model.specs.declared.event.Moment.{Moment}
use Rattle.model.specs.declared.event.Moment.TheVariants.{Wrote}
use Rattle.model.specs.declared.event.Writer.TheVariants.{Program}
use Rattle.model.specs.World.{File, IsNotAt}
use Rattle.model.specs.Records.{LogFormat, Made, OwnFiles}
use Rattle.seen_log.specs.declared.note.Kind.{Kind}
use Rattle.seen_log.specs.declared.note.Note.{Note}
use Rattle.seen_log.specs.declared.note.Noted.{Noted}
use Rattle.seen_log.specs.Log.{compaction, noted_in_force}
use Rattle.seen_log.specs.Record.{forms}
use Rattle.seen_law.specs.Retold.{BeginsSo}
use Rattle.seen_law.specs.Laws.{told_then}
use Rattle.seen_law.specs.Meanwhile.{recorded_at}
use Rattle.seen_true.specs.Counting.{Knowing, is_as_noted, telling}
use Rattle.seen_true.specs.Soundly.{CountSoundly, IsLaterThanRecords, written_in}
use Rattle.seen_true.specs.Notes.{Course, NotesAreKept, NotesAreTrue, Sighting, IsTrueNote, IsWhole, Stood, grown, note_of, notes_text, told}
use Rattle.seen_true.specs.Others.{LeavesSeen, OthersWroteSo, OwnFit, ReadsNotes, StandsStill}

-- ---- from one build to the next

-- Where the notes are true at the end of a build, wherever it ended, and others wrote so, what counts in the next one does so soundly: at these
-- paths, and of no other has anything to be said.
abbrev pub NotesTellTruly : Type 0
NotesTellTruly =
    (format : LogFormat) (own : OwnFiles) (c : Course) (next : Knowing) (later : List Moment) → ∥ NotesAreTrue c ∥₁
    → OwnFit own c.knows next → ReadsNotes next later → OthersWroteSo format own c next later → IsLaterThanRecords format own (told c) next.number
    → CountSoundly format own (telling next) (told c) later (written_in (told c) ++ written_in later)

-- one past both, as far as a stamp goes
abbrev pub next_number : (start greatest : ℕ) → ℕ
next_number start greatest = min (max start greatest + 1) (2 ^ 64 - 1)

-- where the stamp of the last start is no earlier than the records, the number is later than they are
abbrev pub TickIsLater : Type 0
TickIsLater =
    (format : LogFormat) (own : OwnFiles) (history : List Moment) (tick greatest : ℕ) → tick < 2 ^ 64 - 1
    → ((o : List ℕ) (made : Made) → recorded_at format own history o ≡ Some made → made.start ≤ tick) → IsLaterThanRecords format own history (next_number tick greatest)

-- where nobody writes over a file with what looks as it, what stands there at the end and looks so is that
abbrev pub SeenIsLeft : Type 0
SeenIsLeft = (c : Course) (p : List ℕ) (file : File) (stood : Stood c p (Some file)) → AllByRecursion (LeavesSeen p file) stood.later → StandsStill c p file

-- ---- in a build

-- It begins: what is known of notes is what is read of their file. Behind a whole one in version 2 lines may be put, and else behind this text.
abbrev pub EntryIsTrue : Type 0
EntryIsTrue =
    (k : Knowing) (first before : List Moment) (records : List Note) (tail : Tail)
    → let c : Course = record { knows = k; first = first; before = before; more = [] } in
    BeginsSo (telling k) first before → IsRead forms (notes_text c) records tail → ((p : List ℕ) → k.noted p ≡ noted_in_force records p)
    → (IsWhole (notes_text c) k.noted → NotesAreKept c None []) × ((text : List ℕ) → IsWhole text k.noted → NotesAreKept c (Some text) [])

-- A compaction of what was read is such a text.
abbrev pub CompactionFits : Type 0
CompactionFits = (records : List Note) (text : List ℕ) → IsLogOf (forms Two) text (compaction records) → IsWhole text (noted_in_force records)

-- Whatever others, commands and the program write elsewhere, and what starts and ends.
abbrev pub MomentsKeepNotes : Type 0
MomentsKeepNotes =
    (c : Course) (base : Option (List ℕ)) (lines : List ℕ) (ms : List Moment) → NotesAreKept c base lines → AllByRecursion (IsNotAt c.knows.seen) ms → NotesAreKept (grown c ms) base lines

-- the program wrote the notes
abbrev pub writes_notes : Course → List ℕ → ℕ → Course
writes_notes c text stamp = grown c (Wrote Program c.knows.seen (Some text) stamp ∷ [])

-- The lines are put behind the file, all of them, or a beginning.
abbrev pub LinesKeepNotes : Type 0
LinesKeepNotes =
    (c : Course) (lines : List ℕ) (stamp : ℕ) → NotesAreKept c None lines
    → NotesAreKept (writes_notes c (notes_text c ++ lines) stamp) None []
    × ((part rest : List ℕ) → part ++ rest ≡ lines → NotesAreTrue (writes_notes c (notes_text c ++ part) stamp))

-- What is to take the place of the file does so; then lines may be put behind it, or it may do so again.
abbrev pub BaseKeepsNotes : Type 0
BaseKeepsNotes =
    (c : Course) (text lines : List ℕ) (stamp : ℕ) → NotesAreKept c (Some text) lines
    → NotesAreKept (writes_notes c text stamp) None lines × NotesAreKept (writes_notes c text stamp) (Some text) lines

-- What was seen gets a line.
abbrev pub LineKeepsNotes : Type 0
LineKeepsNotes =
    (c : Course) (base : Option (List ℕ)) (lines : List ℕ) (s : Sighting) → NotesAreKept c base lines → IsTrueNote c s → HasLine (forms Two) (note_of s)
    → NotesAreKept c base (lines ++ record_line (forms Two) (note_of s))

-- ---- what is noted is true

-- commands of this build were started before
abbrev pub is_late : (since : Option ℕ) → ℕ → Bool
is_late None stamp = false
is_late (Some start) stamp = nat_lt start stamp

-- the number under which a file is noted that is found at a path, if it is: that of `judged` in crate `seen`, where it was put there when written
abbrev pub found_number : Option Noted → (is_output : Bool) → (number : ℕ) → (since : Option ℕ) → (stamp size : ℕ) → Option ℕ
found_number None is_output number since stamp size = if is_late since stamp && not is_output then Some stamp else Some 0
found_number (Some n) is_output number since stamp size = if is_as_noted n stamp size then None else (if is_output then None else Some (max number stamp))

-- what a look notes is true
abbrev pub LookIsTrue : Type 0
LookIsTrue =
    (c : Course) (p : List ℕ) (file : File) (since : Option ℕ) (kind : Kind) (number : ℕ) → Stood c p (Some file) → c.knows.is_own p ≡ false
    → found_number (c.knows.noted p) (c.knows.is_output p) c.knows.number since file.stamp (length file.content) ≡ Some number
    → IsTrueNote c (record { path = p; file = Some file; kind = kind; number = number })

-- that nothing was there is true
abbrev pub AwayIsTrue : Type 0
AwayIsTrue = (c : Course) (p : List ℕ) (kind : Kind) → Stood c p None → IsTrueNote c (record { path = p; file = None; kind = kind; number = 0 })

-- the number of what counts under this stamp: 0 where that is its own
abbrev pub number_of : (counts stamp : ℕ) → ℕ
number_of counts stamp = if counts == stamp then 0 else counts

-- Where it is noted to count as it is told, as what its command left is, that is true of each path.
abbrev pub ToldIsTrue : Type 0
ToldIsTrue =
    (c : Course) (p : List ℕ) (file : File) (kind : Kind) (counts : ℕ) → Stood c p (Some file)
    → told_then (telling c.knows) c.more p (Some file) ≡ Some (record { content = file.content; stamp = counts })
    → IsTrueNote c (record { path = p; file = Some file; kind = kind; number = number_of counts file.stamp })
