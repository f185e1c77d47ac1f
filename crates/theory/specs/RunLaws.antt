-- What is claimed of a run, as statements that this crate proves.
use Rattle.std.specs.Prelude.{◌≡◌, ◌≢◌, ◌⊎◌, ℕ, ◌+◌, Bool, true, false, IsTrue, List, [], ◌∷◌, ◌++◌, length, Option, Some, None}
use Rattle.model.specs.declared.graph.Edge.{Edge}
use Rattle.model.specs.World.{World, View, view_of, runs, IsIdle}
use Rattle.model.specs.Clean.{clean_build}
use Rattle.model.specs.Graph.{has, has_number, edge_at, maker, outputs, IsMadeOnce, IsCommand}
use Rattle.model.specs.Outcome.{Behaviour}
use Rattle.model.specs.Records.{OwnFiles, Store, recorded_inputs}
use Rattle.model.specs.Schedule.{Task, Step, Started, judged_in, clean_in, started_in, ended_in, well_in, failed_in, running_in, done_in, IsLawful, IsSettled, NoneMayBeJudged, NoneMayStart}
use Rattle.model.specs.declared.event.Moment.{Moment}
use Rattle.model.specs.Phases.{IsLawfulBuild, WasNothingMissing}
use Rattle.model.specs.OutOfDate.{NothingIsMissing}
use Rattle.model.specs.Premises.{Premises, HasOneOutcome, Matters, DyndepOutputsAreReadBelow}
use Rattle.model.specs.SingleBuild.{Asked, NamesOther, task_of, InCone, IsJudged, StartsOnlyStale, IsFrame, IsCleanlyBuilt}
use Rattle.model.specs.Reading.{IsInCone, IsRead}
use Rattle.theory.specs.Order.{settled_in, IsSettlingOrder, AreMakersFirst, LeaveAsNow, IsExplained, no_records, AreReadFirst, IsReadingOrder, IsOrderly}
use Rattle.theory.specs.Run.{IsRun, IsRunOrRest, AreStartsReady}

-- what an edge reads: its reading set, and these paths
abbrev pub ReadsOr : List Edge → View → (ℕ → List (List ℕ)) → ℕ → List ℕ → Type 0
ReadsOr edges files others i p = IsRead edges files i p ⊎ (has (others i) p ≡ true)

-- After edges were settled, each after the commands that make what it reads, and where each of their outputs is explained,
-- these outputs hold what the clean build gives: over any such order.
abbrev pub SettledIsClean : Type 0
SettledIsClean =
    (B : Behaviour) (edges : List Edge) (files : View) (others : ℕ → List (List ℕ)) (order : List ℕ)
    → IsReadingOrder edges (ReadsOr edges files others) [] order → ((i : ℕ) → has_number order i ≡ true → HasOneOutcome B edges files i)
    → ((i : ℕ) (o : List ℕ) → has_number order i ≡ true → has (outputs (edge_at edges i)) o ≡ true → IsExplained B edges (ReadsOr edges files others) files i o)
    → (i : ℕ) (o : List ℕ) → has_number order i ≡ true → maker edges o ≡ Some i → files o ≡ clean_build B edges files o

-- A build in which nothing was judged clean, and at whose end each edge of the cone is settled, leaves the outputs of the cone
-- as the clean build gives them, while the premises hold.
abbrev pub SuccessIsClean : Type 0
SuccessIsClean =
    (tells : Bool) (B : Behaviour) (own : OwnFiles) (asked : Asked) (store : Store) (steps : List Step) (old now : World)
    → IsTrue tells → IsIdle old.events → IsRunOrRest tells own (task_of asked store) steps old now
    → IsMadeOnce asked.graph.edges → clean_in steps ≡ []
    → AreReadFirst asked.graph.edges (Matters B asked.graph.edges (recorded_inputs store asked.graph.edges) steps old.history now.history) steps
    → ((i : ℕ) → InCone asked store i → IsSettled asked.graph.edges (done_in steps) i)
    → (premises : Premises B own asked.declared asked.graph.edges (recorded_inputs store asked.graph.edges) steps old.history now.history)
    → LeaveAsNow B premises.files.quiet asked.graph.edges steps old.history now.history
    → IsCleanlyBuilt B premises.files.quiet asked store (view_of now.history)

-- A run changes no file but those that a build may change, each at its time; at its starts there is no old depfile and the
-- response file is written, if that was seen to.
abbrev pub RunKeepsFrame : Type 0
RunKeepsFrame =
    (tells : Bool) (own : OwnFiles) (asked : Asked) (store : Store) (steps : List Step) (old now : World)
    → IsTrue tells → IsIdle old.events → IsRunOrRest tells own (task_of asked store) steps old now
    → IsMadeOnce asked.graph.edges → AreStartsReady own asked.graph.edges old.history now.history → IsFrame own asked.graph.edges steps old.history now.history

-- where no command that was started names a depfile or a response file, that is so
abbrev pub NothingToMakeReady : Type 0
NothingToMakeReady =
    (tells : Bool) (own : OwnFiles) (asked : Asked) (store : Store) (steps : List Step) (old now : World)
    → IsTrue tells → IsRunOrRest tells own (task_of asked store) steps old now
    → ((i : ℕ) → has_number (started_in steps) i ≡ true → ((edge_at asked.graph.edges i).act.depfile ≡ []) × ((edge_at asked.graph.edges i).act.response_path ≡ []))
    → AreStartsReady own asked.graph.edges old.history now.history

-- where verdicts are right, orderly steps start only commands out of date
abbrev pub OrderlyStartsAreStale : Type 0
OrderlyStartsAreStale =
    (B : Behaviour) (free : List ℕ → Bool) (asked : Asked) (store : Store) (steps : List Step) (met : Option ℕ) (old new : List Moment)
    → IsOrderly asked.graph.edges steps → IsJudged B free asked store steps met old new → StartsOnlyStale free asked.graph.edges store steps old new

-- What was missing is asked once where there is one phase: at the entry.
abbrev pub OnePhaseAsksAtEntry : Type 0
OnePhaseAsksAtEntry =
    (own : OwnFiles) (task : Task) (store : Store) (old new : List Moment)
    → NothingIsMissing task.graph.edges store [] old task.targets → WasNothingMissing own task store old new [] []

-- Without records each command with an output is out of date, so verdicts that all say so are right.
abbrev pub NothingIsUpToDate : Type 0
NothingIsUpToDate =
    (tells : Bool) (B : Behaviour) (free : List ℕ → Bool) (own : OwnFiles) (asked : Asked) (steps : List Step) (old now : World)
    → IsTrue tells → IsIdle old.events → IsRunOrRest tells own (task_of asked no_records) steps old now → IsLawful (task_of asked no_records) steps → clean_in steps ≡ []
    → ((i : ℕ) → IsCommand asked.graph.edges i → outputs (edge_at asked.graph.edges i) ≢ [])
    → ((i : ℕ) → has_number (ended_in steps) i ≡ true → (edge_at asked.graph.edges i).act.depfile ≡ [])
    → IsJudged B free asked no_records steps None old.history now.history

-- Where nothing may be judged or started, no command runs and none has failed, each edge of the cone is settled.
abbrev pub EndIsSettled : Type 0
EndIsSettled =
    (task : Task) (steps : List Step) (order : List ℕ)
    → NoneMayBeJudged task steps → NoneMayStart task steps → running_in steps ≡ [] → failed_in steps ≡ []
    → AreMakersFirst task.graph.edges task.recorded [] order → ((i : ℕ) → has_number order i ≡ true → IsInCone task.graph.edges task.recorded task.targets i)
    → (i : ℕ) → has_number order i ≡ true → IsSettled task.graph.edges (done_in steps) i

-- edges are settled in an order in which all that an edge needs comes first
abbrev pub ScheduleSettlesInOrder : Type 0
ScheduleSettlesInOrder = (task : Task) (steps : List Step) → IsLawful task steps → IsSettlingOrder task.graph.edges task.recorded [] (settled_in steps)

-- no edge is started twice
abbrev pub StartsOnce : Type 0
StartsOnce = (task : Task) (before after : List Step) (i : ℕ) → IsLawful task (before ++ Started i ∷ after) → (has_number (started_in before) i ≡ false) × (has_number (started_in after) i ≡ false)

-- the commands that run by the site's events are those that run by the steps, and each that was started runs or has ended
abbrev pub RunningIsAsTold : Type 0
RunningIsAsTold =
    (tells : Bool) (own : OwnFiles) (task : Task) (steps : List Step) (old now : World) → IsIdle old.events → IsRun tells own task steps old now
    → ((j : ℕ) → runs j now.events ≡ has_number (running_in steps) j)
    × (length (started_in steps) ≡ length (running_in steps) + (length (well_in steps) + length (failed_in steps)))

-- ---- builds that load dyndep files

-- In a build that loads dyndep files, over the edges of its end: the steps are orderly, each judged edge has its dyndep file
-- loaded, and the commands that make what it reads were done when it was judged; where outputs that only a dyndep file names are
-- read only below that file.
abbrev pub LoadsComeFirst : Type 0
LoadsComeFirst =
    (B : Behaviour) (texts : View) (asked : Asked) (store : Store) (steps : List Step) (old new : List Moment)
    → IsLawfulBuild B.dyndep texts asked.declared (task_of asked store) store steps
    → IsMadeOnce asked.declared → IsMadeOnce asked.graph.edges → ((file : List ℕ) → NamesOther asked.declared file → ⊥)
    → DyndepOutputsAreReadBelow B asked.declared asked.graph.edges (recorded_inputs store asked.graph.edges) steps old new
    → IsOrderly asked.graph.edges steps
    × ((i : ℕ) → has_number (judged_in steps) i ≡ true → (edge_at asked.graph.edges i).dyndep ≡ None)
    × AreReadFirst asked.graph.edges (Matters B asked.graph.edges (recorded_inputs store asked.graph.edges) steps old new) steps

-- Without dyndep files a lawful schedule is such a build, of one phase.
abbrev pub OnePhaseIsLawful : Type 0
OnePhaseIsLawful =
    (B : Behaviour) (texts : View) (asked : Asked) (store : Store) (steps : List Step)
    → asked.graph.edges ≡ asked.declared → ((i : ℕ) → (edge_at asked.graph.edges i).dyndep ≡ None) → IsLawful (task_of asked store) steps
    → IsLawfulBuild B.dyndep texts asked.declared (task_of asked store) store steps
