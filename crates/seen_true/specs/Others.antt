-- What is supposed of others, and of edits of the build file; nothing of this speaks of the program. All is this project's own.
use Rattle.std.specs.Prelude.{◌≡◌, ◌⊎◌, ℕ, ◌<◌, Bool, true, false, List, Some, None, bytes_eq, length}
use Rattle.log_text.specs.declared.tail.Tail.{Tail}
use Rattle.log_text.specs.Text.{IsRead}
use Rattle.model.specs.declared.event.Moment.{Moment}
use Rattle.model.specs.declared.event.Moment.TheVariants.{Wrote, Happened}
use Rattle.model.specs.World.{File, file_at, view_of, written}
use Rattle.model.specs.Calls.{content_or_empty}
use Rattle.model.specs.Records.{LogFormat, Made, OwnFiles}
use Rattle.seen_log.specs.declared.note.Kind.TheVariants.{Source}
use Rattle.seen_log.specs.declared.note.Note.{Note}
use Rattle.seen_log.specs.declared.note.Noted.{Noted}
use Rattle.seen_log.specs.Log.{noted_in_force}
use Rattle.seen_log.specs.Record.{forms}
use Rattle.seen_law.specs.Meanwhile.{recorded_at}
use Rattle.seen_true.specs.Counting.{Knowing, is_as_noted, is_turned, no_size}
use Rattle.seen_true.specs.Soundly.{IsLaterThanRecords}
use Rattle.seen_true.specs.Notes.{Course, Stood, real, told}

-- what is noted of a file
abbrev pub noted_as : File → Noted
noted_as file = record { kind = Source; stamp = file.stamp; size = length file.content; number = 0 }

-- this file looks as that one was noted
abbrev pub looks_as : (was file : File) → Bool
looks_as was file = is_as_noted (noted_as was) file.stamp (length file.content)

-- what stands at the path at the end and looks as this file is that
abbrev pub StandsStill : Course → List ℕ → File → Type 0
StandsStill c p was = (file : File) → file_at (real c) p ≡ Some file → looks_as was file ≡ true → file ≡ was

-- this write puts nothing else in its place that looks as it
abbrev pub LeavesSeen : List ℕ → File → Moment → Type 0
LeavesSeen p was (Wrote by path content stamp) = bytes_eq path p ≡ true → (file : File) → written content stamp ≡ Some file → looks_as was file ≡ true → file ≡ was
LeavesSeen p was (Happened event) = Unit {0}

-- what the next build knows of notes is what it reads of their file
pub record ReadsNotes (next : Knowing) (later : List Moment) : Type 0 where
  pub records : List Note
  pub tail : Tail
  pub read : IsRead forms (content_or_empty (file_at later next.seen)) records tail
  pub is : (p : List ℕ) → next.noted p ≡ noted_in_force records p

-- both builds have the same files of the program's own, and these are among them
pub record OwnFit (own : OwnFiles) (known next : Knowing) : Type 0 where
  pub same : (p : List ℕ) → next.is_own p ≡ known.is_own p
  pub seen : next.seen ≡ known.seen
  pub build_log : known.is_own own.build_log ≡ true
  pub deps_log : known.is_own own.deps_log ≡ true

-- the file at the path looks as this
abbrev pub IsAs : Noted → File → Type 0
IsAs n file = is_as_noted n file.stamp (length file.content) ≡ true

-- WHAT OTHERS DID. No file is so large as what is absent is noted. What stands at a path at the end of the build, and looks as a file that stood there in it, is that file. Between the builds they left
-- the logs and the notes; of what was never noted, and of the program's own files, they wrote nothing under a stamp that is no later than the
-- records; where what stands there is as noted, it was there so at the end. An output that has a record but no note they left, or deleted; and so
-- they did with one that has a record and that no line makes any more. What counted as absent, since somebody had written it at a time at which no
-- line made it, is still made by a line.
pub record OthersWroteSo (format : LogFormat) (own : OwnFiles) (c : Course) (next : Knowing) (later : List Moment) : Type 0 where
  pub small : (p : List ℕ) (file : File) → c.knows.is_own p ≡ false → file_at later p ≡ Some file → length file.content < no_size
  pub meanwhile : (p : List ℕ) (file : File) → c.knows.is_own p ≡ false → Stood c p (Some file) → StandsStill c p file
  pub build_log : view_of later own.build_log ≡ view_of (real c) own.build_log
  pub deps_log : view_of later own.deps_log ≡ view_of (real c) own.deps_log
  pub notes_left : content_or_empty (file_at later c.knows.seen) ≡ content_or_empty (file_at (real c) c.knows.seen)
  pub unnoted : (p : List ℕ) (file : File) → (c.knows.is_own p ≡ true) ⊎ (next.noted p ≡ None) → file_at later p ≡ Some file
      → (file_at (real c) p ≡ Some file) ⊎ IsLaterThanRecords format own (told c) file.stamp
  pub same : (p : List ℕ) (n : Noted) (file : File) → next.noted p ≡ Some n → file_at later p ≡ Some file → IsAs n file
      → (was : File) × (file_at (real c) p ≡ Some was) × IsAs n was × (was.content ≡ file.content)
  pub unnoted_outputs : (o : List ℕ) (made : Made) (file : File) → recorded_at format own (told c) o ≡ Some made → (c.knows.is_own o ≡ true) ⊎ (next.noted o ≡ None)
      → file_at later o ≡ Some file → view_of (real c) o ≡ Some file.content
  pub dropped : (o : List ℕ) (made : Made) (n : Noted) (file : File) → recorded_at format own (told c) o ≡ Some made → next.noted o ≡ Some n
      → next.is_output o ≡ false → file_at later o ≡ Some file → (IsAs n file → ⊥) → view_of (told c) o ≡ Some file.content
  pub turned : (p : List ℕ) (n : Noted) (file : File) → next.noted p ≡ Some n → file_at later p ≡ Some file → IsAs n file
      → is_turned n.kind ≡ true → c.knows.is_output p ≡ true → next.is_output p ≡ true
