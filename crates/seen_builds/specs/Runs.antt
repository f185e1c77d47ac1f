-- Builds one after another, each of which goes by what is known when it begins. All is this project's own.
use Rattle.std.specs.Prelude.{◌≡◌, ◌⊎◌, ℕ, ◌<◌, Bool, true, false, is_some, List, Option, Some}
use Rattle.model.specs.declared.event.Moment.{Moment}
use Rattle.model.specs.declared.graph.BuildGraph.{BuildGraph}
use Rattle.model.specs.World.{World, View, IsIdle, view_of}
use Rattle.model.specs.Outcome.{Behaviour}
use Rattle.model.specs.Records.{LogFormat, OwnFiles, Told as DepsTold, deps_in_force, store_in}
use Rattle.log_text.specs.DepsFormat.{ReadsLogs}
use Rattle.depfile.specs.Depfile.{IsReading}
use Rattle.work.specs.Loads.{ReadsDyndeps}
use Rattle.work.specs.declared.report.Report.{Report}
use Rattle.builder.specs.declared.asked.Asked.{Asked as Request}
use Rattle.seen_true.specs.Between.{ComesBehind, paths_between, told_at}
use Rattle.seen_true.specs.Going.{Entered, EntersAt}
use Rattle.seen_true.specs.Soundly.{CountSoundly, IsLaterThanRecords}
use Rattle.seen.specs.declared.counts.Counts.{Counts}
use Rattle.seen.specs.Begun.{Begun, told_world}
use Rattle.seen.specs.Known.{known_of}
use Rattle.seen.specs.Makers.{maker_of}
use Rattle.seen.specs.Own.{AreOwnIn}
use Rattle.seen_builds.specs.From.{begun_with, telling_in, BeginsKnowing, IsOver}
use Rattle.seen_builds.specs.Makes.{KnowsMakers}

-- a command makes it, by what was known when a build began
abbrev pub is_made_in : Counts → List ℕ → Bool
is_made_in counts p = is_some (maker_of counts.makers p)

-- ---- one build

-- ONE BUILD: what had happened when it was asked for, what was known when it began, the site then and at its end, what was asked for of which graph, and
-- the report.
pub record Run : Type 0 where
  pub past : List Moment
  pub counts : Counts
  pub entry : World
  pub exit : World
  pub graph : BuildGraph
  pub request : Request
  pub report : Report

-- it began so
abbrev pub begun_in : Run → Begun
begun_in run = begun_with run.counts run.past run.entry

-- the site as it was told, at its beginning and at its end
abbrev pub entry_in : Run → World
entry_in run = told_world true (begun_in run) run.entry

abbrev pub exit_in : Run → World
exit_in run = told_world true (begun_in run) run.exit

-- the files that it was told at its end, and those that are there
abbrev pub files_told : Run → View
files_told run = view_of (exit_in run).history

abbrev pub files_there : Run → View
files_there run = view_of run.exit.history

-- THE BUILD WAS RUN, as `build_seen` promises: no command ran at its beginning, and the site had not stopped; which files are the program's own was known
-- by the folder of the logs, which edge makes what by the build file, and of notes what was read of them since the build was asked for; and then it was
-- built, and left true notes.
pub record WasRun (run : Run) : Type 0 where
  pub idle : IsIdle run.entry.events
  pub running : run.entry.stopped ≡ false
  pub own : AreOwnIn run.request.folder run.counts.own
  pub makes : KnowsMakers run.counts.makers run.graph.edges
  pub base : Option (List ℕ)
  pub enters : EntersAt (known_of run.counts) base run.past run.entry.history
  pub built : IsOver true (begun_in run) run.graph run.request run.entry run.exit run.report

-- the build that `build_seen` has carried out, where it began
abbrev pub run_of : (graph : BuildGraph) (request : Request) (old new : World) (report : Report) → BeginsKnowing true graph request old new report → Run
run_of graph request old new report b =
    record { past = old.history; counts = b.counts; entry = b.entry; exit = new; graph = graph; request = request; report = report }

-- it was run
abbrev pub BegunIsRun : Type 0
BegunIsRun =
    (graph : BuildGraph) (request : Request) (old new : World) (report : Report) → (begins : BeginsKnowing true graph request old new report)
    → WasRun (run_of graph request old new report begins)

-- ---- what others did before it

-- What all builds here have in common: what commands do, how logs and other files are read, which are as they are defined, and which files are
-- the program's own.
pub record Conventions : Type 0 where
  pub does : Behaviour
  pub format : LogFormat
  pub own : OwnFiles
  pub depfiles : IsReading does.depfile
  pub dyndeps : ReadsDyndeps does.dyndep
  pub logs : ReadsLogs format

-- WHAT WAS BEFORE A BUILD: nothing is known of that but what was told; or a build began so, and the site was this at its end.
pub data Before : Type 0 where
  Told : (history : List Moment) → Before
  Ended : (entered : Entered) → (exit : World) → Before

-- what was told of it
abbrev pub told_in : Before → List Moment
told_in (Told history) = history
told_in (Ended entered exit) = told_at entered exit

-- this build is before the next one
abbrev pub ended_by : Run → Before
ended_by run = Ended (begun_in run) run.exit

-- what others did since this was told counts soundly, by what the build knew when it began
abbrev pub OthersCountSoundly : Conventions → (told : List Moment) → Run → Type 0
OthersCountSoundly here told run = CountSoundly here.format here.own (telling_in run.counts) told run.entry.history (paths_between told run.entry.history)

-- WHAT OTHERS DID BEFORE IT COUNTS: it comes behind a build, and others wrote as is supposed of them; or what they did counts soundly, whatever the
-- notes are, as it does where nothing was built yet.
abbrev pub OthersCount : Conventions → Before → Run → Type 0
OthersCount here (Told history) run = OthersCountSoundly here history run
OthersCount here (Ended entered exit) run =
    ComesBehind here.format here.own entered exit (begun_in run) ⊎ OthersCountSoundly here (told_at entered exit) run

-- The number of the build is later than the start of each record that it finds in force, in either log.
pub record HasLateNumber (here : Conventions) (run : Run) : Type 0 where
  pub records : IsLaterThanRecords here.format here.own (entry_in run).history run.counts.number
  pub deps : (o : List ℕ) (deps : DepsTold) → deps_in_force (store_in here.format here.own (view_of (entry_in run).history)).deps o ≡ Some deps → deps.start < run.counts.number
