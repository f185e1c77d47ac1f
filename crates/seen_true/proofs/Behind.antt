-- The next build behind one that left true notes.
use Rattle.std.proofs.Common.{◌≡◌, ℕ, true, List, [], Option, refl, sym, subst}
use Rattle.model.specs.declared.event.Moment.{Moment}
use Rattle.model.specs.declared.graph.Edge.{Edge}
use Rattle.model.specs.Calls.{OthersWrote}
use Rattle.model.specs.Faithful.{IsFaithfulStore}
use Rattle.model.specs.Outcome.{Behaviour}
use Rattle.model.specs.Records.{LogFormat, OwnFiles}
use Rattle.model.specs.World.{World, IsIdle}
use Rattle.log_text.specs.Laws.{OneReading}
use Rattle.seen_log.specs.Record.{forms}
use Rattle.seen_law.specs.Laws.{FilesAreTold}
use Rattle.seen_law.specs.Meanwhile.{no_command, told_next}
use Rattle.seen_law.specs.Retold.{BeginsSo, retold}
use Rattle.seen_true.specs.Counting.{telling}
use Rattle.seen_true.specs.Going.{Entered, course}
use Rattle.seen_true.specs.Soundly.{CountSoundly}
use Rattle.seen_true.specs.Between.{BehindBegins, BehindIsSound, paths_between, told_at}
use Rattle.seen_true.proofs.Ending.{ending_law}
use Rattle.seen_true.proofs.Noting.{stay_law}
use Rattle.seen_true.proofs.Sound.{begins_law}

pub sound_law : FilesAreTold → OneReading forms → BehindIsSound
sound_law files_law one_reading format own e exit next base stands knows behind =
    ending_law files_law one_reading format own (course e exit) next.knows next.first (stands.kept refl behind.left) knows.fit
    (stay_law next base knows.enters behind.read).reads behind.others knows.number

module _ (B : Behaviour) (format : LogFormat) (own : OwnFiles) (edges others : List Edge)
    (e : Entered) (exit : World) (next : Entered) (last entry : World) (was : last.history ≡ told_at e exit) (idle : IsIdle entry.events)
    (faithful : IsFaithfulStore B format own edges last) where
  -- what is told where this is the history when it begins
  abbrev told_to : List Moment → List Moment
  told_to later = told_next (telling next.knows) (told_at e exit) later (paths_between (told_at e exit) later)

  abbrev Begins : List Moment → Type 0
  Begins later =
      BeginsSo (telling next.knows) later (told_to later)
      × OthersWrote no_command (told_at e exit) (told_to later)
      × IsFaithfulStore B format own others (retold (telling next.knows) later (told_to later) [] entry)

  abbrev Counts : List Moment → Type 0
  Counts later = CountSoundly format own (telling next.knows) (told_at e exit) later (paths_between (told_at e exit) later)

  begins_then : entry.history ≡ next.first → Counts next.first → Begins next.first
  begins_then here sound =
      subst Begins here
      (begins_law B format own edges others (telling next.knows) last entry (told_at e exit) (paths_between (told_at e exit) entry.history) was idle
      (subst Counts (sym here) sound) faithful)

pub behind_law : FilesAreTold → OneReading forms → BehindBegins
behind_law files_law one_reading B format own edges others e exit next base last entry stands knows behind was here idle faithful =
    begins_then B format own edges others e exit next last entry was idle faithful here
    (sound_law files_law one_reading format own e exit next base stands knows behind)
