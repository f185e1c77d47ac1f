-- Two builds, one behind the other, the first of which left true notes. Statements that this crate proves.
use Rattle.std.specs.Prelude.{◌≡◌, ℕ, true, List, [], ◌++◌, Option}
use Rattle.std.specs.List.{AllByRecursion}
use Rattle.model.specs.declared.event.Moment.{Moment}
use Rattle.model.specs.declared.graph.Edge.{Edge}
use Rattle.model.specs.World.{World, IsIdle}
use Rattle.model.specs.Calls.{OthersWrote}
use Rattle.model.specs.Outcome.{Behaviour}
use Rattle.model.specs.Records.{LogFormat, OwnFiles}
use Rattle.model.specs.Faithful.{IsFaithfulStore}
use Rattle.seen_law.specs.Retold.{BeginsSo, retold}
use Rattle.seen_law.specs.Meanwhile.{no_command, told_next}
use Rattle.seen_true.specs.Counting.{telling}
use Rattle.seen_true.specs.Soundly.{CountSoundly, IsLaterThanRecords, written_in}
use Rattle.seen_true.specs.Notes.{told}
use Rattle.seen_true.specs.Others.{OthersWroteSo, OwnFit}
use Rattle.seen_true.specs.Calls.{IsLeftByOthers}
use Rattle.seen_true.specs.Going.{Entered, EntersAt, NotesStand, course, entering, since_asked}

-- what was told at its end of a build that began so
abbrev pub told_at : Entered → World → List Moment
told_at e exit = told (course e exit)

-- at which paths what others did since is told: wherever anything was written
abbrev pub paths_between : (told later : List Moment) → List (List ℕ)
paths_between told later = written_in told ++ written_in later

-- what is told at the beginning of the next one
abbrev pub told_behind : Entered → World → (next : Entered) → List Moment
told_behind e exit next = told_next (telling next.knows) (told_at e exit) next.first (paths_between (told_at e exit) next.first)

-- THE NEXT BUILD COMES BEHIND THAT ONE. Nobody but the program wrote the notes in that one, since it was asked for, nor while the next one read them; and
-- others wrote so.
pub record ComesBehind (format : LogFormat) (own : OwnFiles) (e : Entered) (exit : World) (next : Entered) : Type 0 where
  pub left : AllByRecursion (IsLeftByOthers e.knows.seen) (since_asked e exit)
  pub read : AllByRecursion (IsLeftByOthers next.knows.seen) (entering next)
  pub others : OthersWroteSo format own (course e exit) next.knows next.first

-- What the next one knows of notes was read of them since it was asked for, both have the same files of their own, and its number is later than the
-- records.
pub record KnowsBehind (format : LogFormat) (own : OwnFiles) (e : Entered) (exit : World) (next : Entered) (base : Option (List ℕ)) : Type 0 where
  pub enters : EntersAt next.knows base next.asked next.first
  pub fit : OwnFit own e.knows next.knows
  pub number : IsLaterThanRecords format own (told_at e exit) next.knows.number

-- Then, where the notes were true at the end of that one, what others did counts soundly.
abbrev pub BehindIsSound : Type 0
BehindIsSound =
    (format : LogFormat) (own : OwnFiles) (e : Entered) (exit : World) (next : Entered) (base : Option (List ℕ))
    → NotesStand true e exit → KnowsBehind format own e exit next base → ComesBehind format own e exit next
    → CountSoundly format own (telling next.knows) (told_at e exit) next.first (paths_between (told_at e exit) next.first)

-- So the next one begins with what counts, and with faithful records: whatever its notes are, nothing of them is supposed.
abbrev pub BehindBegins : Type 0
BehindBegins =
    (B : Behaviour) (format : LogFormat) (own : OwnFiles) (edges others : List Edge) (e : Entered) (exit : World) (next : Entered) (base : Option (List ℕ)) (last entry : World)
    → NotesStand true e exit → KnowsBehind format own e exit next base → ComesBehind format own e exit next
    → last.history ≡ told_at e exit → entry.history ≡ next.first → IsIdle entry.events → IsFaithfulStore B format own edges last
    → BeginsSo (telling next.knows) next.first (told_behind e exit next)
    × OthersWrote no_command (told_at e exit) (told_behind e exit next)
    × IsFaithfulStore B format own others (retold (telling next.knows) next.first (told_behind e exit next) [] entry)
