-- What a run carries from call to call, in one record: its phases and its history, that its starts are ready and ticked, what each
-- judgement and each depfile said, what the logs tell, and that files of running commands are left alone.
use Rattle.std.specs.Prelude.{◌≡◌, ◌≢◌, ◌⊎◌, ℕ, Bool, true, false, IsTrue, List, [], ◌++◌, Option, Some, None}
use Rattle.model.specs.declared.event.Moment.{Moment}
use Rattle.model.specs.declared.graph.Edge.{Edge}
use Rattle.model.specs.World.{World, View, view_of, IsIdle}
use Rattle.model.specs.Graph.{has, has_number, edge_at, maker, inputs, outputs, IsCommand}
use Rattle.model.specs.Outcome.{Behaviour}
use Rattle.model.specs.Records.{Store, LogFormat, OwnFiles, store_in, in_force}
use Rattle.model.specs.Schedule.{Step, judged_in, done_in}
use Rattle.model.specs.Phases.{Phase, steps_of, IsDueLoad, IsLawfulBuild}
use Rattle.model.specs.Premises.{FilesAreKept, IsTickedAt, StartsAreTicked}
use Rattle.model.specs.SingleBuild.{Asked, task_of, AreCleanByOutputs, AreLoadsHeldAt, EndRightly, EndAsRead}
use Rattle.theory.specs.Run.{IsRun, IsRunOrRest, AreStartsReady}
use Rattle.theory.specs.Logged.{IsLoggedAt}
use Rattle.theory.specs.Judged.{AreJudgedOver, ArePhasesJudged}
use Rattle.theory.specs.Alone.{AreLeftAlone}

-- a loaded file held this when just these steps were done, and what makes it was settled then
pub record LoadedThen (tells : Bool) (own : OwnFiles) (asked : Asked) (store : Store) (file content : List ℕ) (steps : List Step) (old now : World) : Type 0 where
  pub before : List Step
  pub later : List Step
  pub splits : steps ≡ before ++ later
  pub mid : World
  pub run : IsRun tells own (task_of asked store) before old mid
  pub more : List Moment
  pub grows : now.history ≡ mid.history ++ more
  pub holds : (files : FilesAreKept own asked.graph.edges old.history mid.history) → files.free file ≡ false → view_of mid.history file ≡ Some content
  pub input : (i : ℕ) × (has (inputs (edge_at asked.graph.edges i)) file ≡ true)
  pub settled : (maker asked.declared file ≡ None → maker asked.graph.edges file ≡ None)
      → (j : ℕ) → maker asked.graph.edges file ≡ Some j → IsCommand asked.graph.edges j → has_number (done_in before) j ≡ true

-- The phases so far, `phases` before the present one: `texts` are what the loaded files held, none of a file that an edge names still;
-- an edge that names one has it as an input, and was not judged; each file held at its load what it was read as; each verdict was
-- right by the edges and files of then.
pub record IsPhased (tells : Bool) (B : Behaviour) (own : OwnFiles) (asked : Asked) (store : Store) (phases : List Phase) (steps : List Step) (old now : World) : Type 0 where
  pub texts : View
  pub build : IsLawfulBuild B.dyndep texts asked.declared (task_of asked store) store steps
  pub so : build.earlier ≡ phases
  pub unread : (i : ℕ) (file : List ℕ) → (edge_at asked.graph.edges i).dyndep ≡ Some file → texts file ≡ None
  pub inputs : (i : ℕ) (file : List ℕ) → (edge_at asked.graph.edges i).dyndep ≡ Some file → has (inputs (edge_at asked.graph.edges i)) file ≡ true
  pub loaded : (i : ℕ) → has_number (judged_in steps) i ≡ true → (edge_at asked.graph.edges i).dyndep ≡ None
  pub held : IsTrue tells → (file content : List ℕ) → texts file ≡ Some content → LoadedThen tells own asked store file content steps old now
  pub read_then : IsTrue tells → AreLoadsHeldAt texts (task_of asked store) store [] build.earlier old.history now.history
  pub before : IsTrue tells → ArePhasesJudged tells own asked store [] build.earlier old now
  pub last : IsTrue tells → AreJudgedOver tells own asked store asked.graph.edges (steps_of build.earlier) build.last old now

-- What is carried beside the run. `met` is the edge whose taking in met a fault, `hand` the one whose start or taking in is under
-- way.
pub record IsBeside (tells : Bool) (B : Behaviour) (format : LogFormat) (own : OwnFiles) (asked : Asked) (store : Store) (steps : List Step) (met hand : Option ℕ) (old now : World) : Type 0 where
  pub idle : IsIdle old.events
  pub ready : IsTrue tells → AreStartsReady own asked.graph.edges old.history now.history
  pub ticked : IsTrue tells → StartsAreTicked old.history now.history
  pub clean : IsTrue tells → FilesAreKept own asked.graph.edges old.history now.history → AreCleanByOutputs asked.graph.edges store steps old.history
  pub taken_in : IsTrue tells → FilesAreKept own asked.graph.edges old.history now.history → EndRightly B asked.graph.edges steps met old.history now.history
  pub read : IsTrue tells → EndAsRead B asked.graph.edges steps met old.history now.history
  pub logged : IsTrue tells → FilesAreKept own asked.graph.edges old.history now.history → IsLoggedAt B format own asked.graph.edges steps hand store old now
  pub alone : IsTrue tells → FilesAreKept own asked.graph.edges old.history now.history → AreLeftAlone asked.graph.edges old.history now.history

-- a load is due that was refused; or one was made just before, and an input is missing
abbrev pub IsRefused : {tells : Bool} → {B : Behaviour} → {own : OwnFiles} → {asked : Asked} → {store : Store} → {phases : List Phase} → {steps : List Step} → {old now : World} → IsPhased tells B own asked store phases steps old now → Type 0
IsRefused {tells} {B} {own} {asked} {store} {phases} {steps} {old} {now} phased =
    (phased.build.last ≡ []) ⊎ ((file : List ℕ) × IsDueLoad (task_of asked store) (steps_of phased.build.earlier ++ phased.build.last) file)

-- A run that goes on, or that a refused load has ended, and then what runs is taken in. The depfile of each command that it took in
-- was read; `hand` is the edge whose start or recording is under way.
pub record IsCarried (tells : Bool) (B : Behaviour) (format : LogFormat) (own : OwnFiles) (asked : Asked) (store : Store) (phases : List Phase) (goes_on : Bool) (steps : List Step) (hand : Option ℕ) (old now : World) : Type 0 where
  pub run : IsRun tells own (task_of asked store) steps old now
  pub phased : IsPhased tells B own asked store phases steps old now
  pub goes : goes_on ≡ true → phased.build.taken_in ≡ []
  pub refused : goes_on ≡ false → IsRefused phased
  pub beside : IsBeside tells B format own asked store steps None hand old now

-- A run that has ended, or that a fault has cut off, in the start or the taking in of the edge `met`: since then commands were
-- taken in, and nothing else was done.
pub record IsCutOff (tells : Bool) (B : Behaviour) (format : LogFormat) (own : OwnFiles) (asked : Asked) (store : Store) (phases : List Phase) (steps : List Step) (met : Option ℕ) (old now : World) : Type 0 where
  pub phased : IsPhased tells B own asked store phases steps old now
  pub run : IsRunOrRest tells own (task_of asked store) steps old now
  pub beside : IsBeside tells B format own asked store steps met met old now

-- ---- an edge that is to be started

-- the last tick was given in this build, and nothing was started or ended since then
pub record IsTickedNow (old now : World) : Type 0 where
  pub so_far : List Moment
  pub was : now.history ≡ old.history ++ so_far
  pub tick : IsTickedAt now.ticked so_far

-- the file holds this, or is absent, where files are kept
abbrev pub HoldsStill : Bool → OwnFiles → List Edge → List ℕ → Option (List ℕ) → World → World → Type 0
HoldsStill tells own edges path held old now = IsTrue tells → FilesAreKept own edges old.history now.history → view_of now.history path ≡ held

-- no output of edge i has a record in force
abbrev pub HasNoRecord : Bool → LogFormat → OwnFiles → List Edge → ℕ → World → World → Type 0
HasNoRecord tells format own edges i old now =
    IsTrue tells → FilesAreKept own edges old.history now.history
    → (o : List ℕ) → has (outputs (edge_at edges i)) o ≡ true → in_force (store_in format own (view_of now.history)).records o ≡ None

-- All is ready for the command of edge i to be started: the stamp of its start is given, its old depfile is gone, unless that is its
-- response file, its response file is written, and its outputs have no record in force.
pub record IsReadyToStart (tells : Bool) (format : LogFormat) (own : OwnFiles) (edges : List Edge) (i : ℕ) (old now : World) : Type 0 where
  pub ticked : IsTrue tells → IsTickedNow old now
  pub depfile : (edge_at edges i).act.depfile ≢ [] → (edge_at edges i).act.depfile ≢ (edge_at edges i).act.response_path → HoldsStill tells own edges (edge_at edges i).act.depfile None old now
  pub response : (edge_at edges i).act.response_path ≢ [] → HoldsStill tells own edges (edge_at edges i).act.response_path (Some (edge_at edges i).act.response_content) old now
  pub begun : HasNoRecord tells format own edges i old now
