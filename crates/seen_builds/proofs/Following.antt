-- Builds one after another, by what is known when each begins.
use Rattle.std.proofs.Common.{◌≡◌, inl, inr, ℕ, true, List, [], ◌∷◌, ◌++◌, Option, Some, None, refl, sym, ◌∙◌, ap}
use Rattle.model.specs.declared.event.Moment.{Moment}
use Rattle.model.specs.declared.graph.Edge.{Edge}
use Rattle.model.specs.Faithful.{IsFaithfulStore}
use Rattle.model.specs.Graph.{IsMadeOnce}
use Rattle.model.specs.Phases.{steps_of}
use Rattle.model.specs.Records.{IsOwnIn, LogFormat, OwnFiles, in_force, read_log}
use Rattle.model.specs.SingleBuild.{IsSuccess, task_of}
use Rattle.model.specs.World.{World, File, content_of, file_at, view_of}
use Rattle.theory.proofs.Growth.{HasGrown}
use Rattle.seen_law.specs.Retold.{Telling, stamp_told, told_file, under}
use Rattle.seen_law.specs.Laws.{FilesAreTold, IsCalled, started_so}
use Rattle.seen_true.specs.Between.{BehindIsSound, ComesBehind, KnowsBehind, told_at}
use Rattle.seen_true.specs.Going.{Entered, NotesStand, since}
use Rattle.seen_true.specs.Soundly.{IsLaterThanRecords, NextBeginsSoundly}
use Rattle.seen.specs.Known.{known_of}
use Rattle.seen_builds.specs.From.{telling_in, told_first, told_nothing}
use Rattle.seen_builds.specs.Runs.{Before, Conventions, Ended, HasLateNumber, OthersCount, OthersCountSoundly, Run, Told, WasRun, begun_in, ended_by, entry_in, exit_in, files_there, files_told, told_in}
use Rattle.seen_builds.specs.Claims.{AreAsClaimed, AreNext, IsAsClaimed, IsNext, RunsAreClean, ToldIsThere, asked_in, build_in, grown_in}
use Rattle.seen_builds.proofs.Beginning.{always_begins}
use Rattle.seen_builds.proofs.Fitting.{KnowsOwn, fit_law, has_log}
use Rattle.seen_builds.proofs.Entering.{entry_faithful, entry_files}
use Rattle.seen_builds.proofs.Counting.{own_counts, source_counts}
use Rattle.seen_builds.proofs.Made.{knows_grown}
use Rattle.seen_builds.proofs.Sourced.{clean_same, grown_since, success_once}

-- what always counts is told with what it holds
counts_always : (t : Telling) (p : List ℕ) → ((file : File) → (stamp : ℕ) × (t.counts p file ≡ Some stamp)) → (started : Option ℕ) (file : Option File)
    → content_of (told_file t.counts started p file) ≡ content_of file
counts_always t p always started None = refl
counts_always t p always started (Some file) =
    ap (λ (c : Option ℕ). content_of (under (stamp_told c started file.stamp) file.content)) (always file).1

-- a number that is later than the records is so where the log is the same
late_there : (format : LogFormat) (own : OwnFiles) (told then_told : List Moment) (number : ℕ) → view_of told own.build_log ≡ view_of then_told own.build_log
    → IsLaterThanRecords format own then_told number → IsLaterThanRecords format own told number
late_there format own told then_told number same late o made is =
    late o made (ap (λ (held : Option (List ℕ)). in_force (read_log format.records held) o) (sym same) ∙ is)

-- the notes of that build are true wherever it ended, it knew which files are the program's own, and its log was told as it is there
record LeftWell (own : OwnFiles) (entered : Entered) (exit : World) : Type 0 where
  notes : NotesStand true entered exit
  knows : KnowsOwn own entered.knows
  log : view_of (told_at entered exit) own.build_log ≡ view_of exit.history own.build_log

abbrev WasLeftWell : OwnFiles → Before → Type 0
WasLeftWell own (Told history) = Unit {0}
WasLeftWell own (Ended entered exit) = LeftWell own entered exit

module _ (next_law : NextBeginsSoundly) (behind_law : BehindIsSound) (files_law : FilesAreTold) (here : Conventions) where
  abbrev own_known : (run : Run) → WasRun run → IsOwnIn here.own run.request.folder → KnowsOwn here.own (known_of run.counts)
  own_known run was fits =
      record { folder = run.request.folder; fits = fits; files = run.counts.own; are = was.own; is_own_so = λ p. refl; seen = refl }

  -- the log counts always
  log_counts : (run : Run) → WasRun run → IsOwnIn here.own run.request.folder → (file : File)
      → (stamp : ℕ) × ((telling_in run.counts).counts here.own.build_log file ≡ Some stamp)
  log_counts run was fits = own_counts run.counts here.own.build_log (has_log here.own (known_of run.counts) (own_known run was fits))

  -- so it is told as it is there when a build begins
  log_told : (run : Run) → WasRun run → IsOwnIn here.own run.request.folder → view_of (entry_in run).history here.own.build_log ≡ view_of run.entry.history here.own.build_log
  log_told run was fits =
      ap content_of (entry_files run here.own.build_log)
      ∙ counts_always (telling_in run.counts) here.own.build_log (log_counts run was fits) None (file_at run.entry.history here.own.build_log)

  module _ (entered : Entered) (exit : World) (left : LeftWell here.own entered exit) (run : Run) (was : WasRun run) (fits : IsOwnIn here.own run.request.folder)
      (late : HasLateNumber here run) (comes : ComesBehind here.format here.own entered exit (begun_in run)) where
    -- the log that this build finds is the one that that one was told
    same_log : view_of (told_at entered exit) here.own.build_log ≡ view_of (entry_in run).history here.own.build_log
    same_log =
        left.log
        ∙ (ap (λ (h : List Moment). view_of h here.own.build_log) (left.notes.goes_on refl)
        ∙ (sym comes.others.build_log ∙ sym (log_told run was fits)))

    knows_behind : KnowsBehind here.format here.own entered exit (begun_in run) was.base
    knows_behind = record {
      enters = was.enters;
      fit = fit_law here.own entered.knows (known_of run.counts) left.knows (own_known run was fits);
      number = late_there here.format here.own (told_at entered exit) (entry_in run).history run.counts.number same_log late.records;
    }

  -- what others did counts soundly, one way or the other
  sound : (before : Before) → WasLeftWell here.own before → (run : Run) → WasRun run → IsOwnIn here.own run.request.folder → HasLateNumber here run
      → OthersCount here before run → OthersCountSoundly here (told_in before) run
  sound (Told history) left run was fits late others = others
  sound (Ended entered exit) left run was fits late (inl comes) =
      behind_law here.format here.own entered exit (begun_in run) was.base left.notes (knows_behind entered exit left run was fits late comes) comes
  sound (Ended entered exit) left run was fits late (inr so) = so

  module _ (edges : List Edge) (last : World) (before : Before) (same : last.history ≡ told_in before) (left : WasLeftWell here.own before) (run : Run)
      (faithful : IsFaithfulStore here.does here.format here.own edges last) (next : IsNext here before run) where
    abbrev t : Telling
    t = telling_in run.counts

    abbrev first : List Moment
    first = told_first run.counts run.entry

    abbrev later : List Moment
    later = since (begun_in run) run.exit

    abbrev grown : List Edge
    grown = grown_in here run next.was next.fits

    called : IsCalled t run.entry.history first later run.exit
    called = record { begins = always_begins t (told_nothing run.counts run.entry) run.entry.history; so_far = next.was.built.goes_on refl }

    entered : IsFaithfulStore here.does here.format here.own grown (entry_in run)
    entered = entry_faithful next_law here edges grown last (told_in before) run same next.was.idle (sound before left run next.was next.fits next.number next.others) next.number faithful

    shows : ToldIsThere run
    shows = record {
      there = λ p content is. (files_law t run.entry.history first later run.exit called p).1 content is;
      sources = λ p none.
          ap content_of (files_law t run.entry.history first later run.exit called p).0
          ∙ counts_always t p (source_counts run.counts p none) (started_so t later p) (file_at run.exit.history p);
    }

    claimed : IsAsClaimed here run next.was next.fits
    claimed =
        let build = build_in here run next.was next.fits in
        let asked = asked_in here run next.was next.fits in
        let store = build.build.store in
        let lawful = build.build.schedule.lawful in
        let more : HasGrown run.graph.edges grown = grown_since here.does.dyndep build.build.texts run.graph.edges (task_of asked store) store build.build.steps lawful in
        let once : IsSuccess build.answer → IsMadeOnce grown =
        λ success. success_once true here.does here.own build.build.texts asked store lawful.earlier (steps_of lawful.earlier ++ lawful.last) build.build.steps
        (entry_in run) (exit_in run) build.answer success build.build.answers in
        record {
          shows = shows;
          stale = λ keeps. build.headline.stale refl keeps.files.kept keeps.files.recorded_apart keeps.files.dyndep.inputs;
          clean = λ keeps success. build.headline.clean refl entered keeps success;
          there = λ keeps success i o content quiet cone command makes is.
              shows.there o content (build.headline.clean refl entered keeps success i o quiet cone command makes
              ∙ (clean_same grown (once success) run.counts (files_told run) (files_there run)
              (knows_grown run.counts.makers run.graph.edges grown more next.was.makes) shows.sources here.does o ∙ is));
        }

    leaves_well : LeftWell here.own (begun_in run) run.exit
    leaves_well = record {
      notes = next.was.built.noted;
      knows = own_known run next.was next.fits;
      log =
          ap content_of (files_law t run.entry.history first later run.exit called here.own.build_log).0
          ∙ counts_always t here.own.build_log (log_counts run next.was next.fits) (started_so t later here.own.build_log) (file_at run.exit.history here.own.build_log);
    }

    stays : IsFaithfulStore here.does here.format here.own grown (exit_in run)
    stays = (build_in here run next.was next.fits).headline.stays refl entered next.keeps

  each : (edges : List Edge) (last : World) (before : Before) → last.history ≡ told_in before → WasLeftWell here.own before → (runs : List Run)
      → IsFaithfulStore here.does here.format here.own edges last → (next : AreNext here before runs) → AreAsClaimed here before runs next
  each edges last before same left [] faithful next = tt
  each edges last before same left (run ∷ runs) faithful next = (
    claimed edges last before same left run faithful next.0,
    each (grown_in here run next.0.was next.0.fits) (exit_in run) (ended_by run) refl
        (leaves_well edges last before same left run faithful next.0) runs
        (stays edges last before same left run faithful next.0) next.1,
  )

pub runs_law : NextBeginsSoundly → BehindIsSound → FilesAreTold → RunsAreClean
runs_law next_law behind_law files_law here edges first runs faithful next =
    each next_law behind_law files_law here edges first (Told first.history) refl tt runs faithful next
