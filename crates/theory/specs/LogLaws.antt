-- What is claimed of a run from a faithful store, as statements that this crate proves.
use Rattle.std.specs.Prelude.{◌≡◌, ℕ, Bool, true, IsTrue, List, ◌∷◌, ◌++◌, Option, None}
use Rattle.model.specs.declared.event.Moment.{Moment}
use Rattle.model.specs.declared.graph.Edge.{Edge}
use Rattle.model.specs.World.{World, View, view_of, IsIdle}
use Rattle.model.specs.Graph.{has_number, edge_at, IsMadeOnce}
use Rattle.model.specs.Outcome.{Behaviour}
use Rattle.model.specs.Records.{OwnFiles, LogFormat, Store, store_in, recorded_inputs}
use Rattle.model.specs.OutOfDate.{Counted, ReadsNoFree, IsVerdict}
use Rattle.model.specs.Schedule.{Step, Judged, IsSettled, judged_in, done_in, well_in}
use Rattle.model.specs.Phases.{IsLawfulBuild}
use Rattle.model.specs.Premises.{Matters, Premises, KeepsFaith, FilesAndReports, FilesAreKept, RecordedApart, StartsAreTicked}
use Rattle.model.specs.SingleBuild.{NamesOther, Asked, task_of, InCone, IsJudged, IsCleanlyBuilt}
use Rattle.model.specs.Faithful.{DepsHaveStarted, IsFaithfulStore}
use Rattle.model.specs.Kept.{KeepsRecords, LeavesNothing, store_at}
use Rattle.theory.specs.Run.{IsRunOrRest}
use Rattle.theory.specs.Order.{AreReadFirst, IsReadAfter}
use Rattle.theory.specs.Logged.{IsLogged, AreReadable}

-- each judged edge has its dyndep file loaded
abbrev pub AreLoaded : List Edge → List Step → Type 0
AreLoaded edges steps = (i : ℕ) → has_number (judged_in steps) i ≡ true → (edge_at edges i).dyndep ≡ None

-- From a faithful store a build whose verdicts are right, and at whose end each edge of the cone is settled, leaves the outputs
-- of the cone as the clean build gives them, while the premises hold: whatever schedule it had, so long as commands that make
-- what an edge reads were done when it was judged.
abbrev pub CleanFromFaithful : Type 0
CleanFromFaithful =
    (tells : Bool) (B : Behaviour) (format : LogFormat) (own : OwnFiles) (asked : Asked) (store : Store) (steps : List Step) (met : Option ℕ) (old now : World)
    → IsTrue tells → IsIdle old.events → IsRunOrRest tells own (task_of asked store) steps old now
    → IsMadeOnce asked.graph.edges → AreLoaded asked.graph.edges steps
    → store ≡ store_in format own (view_of old.history) → IsFaithfulStore B format own asked.graph.edges old
    → (premises : Premises B own asked.declared asked.graph.edges (recorded_inputs store asked.graph.edges) steps old.history now.history) → StartsAreTicked old.history now.history
    → IsJudged B premises.files.kept.free asked store steps met old.history now.history
    → AreReadFirst asked.graph.edges (Matters B asked.graph.edges (recorded_inputs store asked.graph.edges) steps old.history now.history) steps
    → ((i : ℕ) → InCone asked store i → IsSettled asked.graph.edges (done_in steps) i)
    → IsCleanlyBuilt B premises.files.quiet asked store (view_of now.history)

-- The same for each lawful build, dyndep files that it loads included: over the graph of its end.
abbrev pub CleanWithLoads : Type 0
CleanWithLoads =
    (tells : Bool) (B : Behaviour) (format : LogFormat) (own : OwnFiles) (texts : View) (asked : Asked) (store : Store) (steps : List Step) (met : Option ℕ) (old now : World)
    → IsTrue tells → IsIdle old.events → IsRunOrRest tells own (task_of asked store) steps old now
    → IsLawfulBuild B.dyndep texts asked.declared (task_of asked store) store steps
    → IsMadeOnce asked.declared → IsMadeOnce asked.graph.edges → ((file : List ℕ) → NamesOther asked.declared file → ⊥)
    → store ≡ store_in format own (view_of old.history) → IsFaithfulStore B format own asked.graph.edges old
    → (premises : Premises B own asked.declared asked.graph.edges (recorded_inputs store asked.graph.edges) steps old.history now.history) → StartsAreTicked old.history now.history
    → IsJudged B premises.files.kept.free asked store steps met old.history now.history
    → ((i : ℕ) → InCone asked store i → IsSettled asked.graph.edges (done_in steps) i)
    → IsCleanlyBuilt B premises.files.quiet asked store (view_of now.history)

-- A store that was faithful at the entry of a run is so at each point of it, faults included, while the premises hold up to there.
abbrev pub FaithfulAtExit : Type 0
FaithfulAtExit =
    (tells : Bool) (B : Behaviour) (format : LogFormat) (own : OwnFiles) (asked : Asked) (store : Store) (steps : List Step) (hand : Option ℕ) (old now : World)
    → IsTrue tells → IsIdle old.events → IsRunOrRest tells own (task_of asked store) steps old now
    → IsMadeOnce asked.graph.edges
    → store ≡ store_in format own (view_of old.history) → IsFaithfulStore B format own asked.graph.edges old
    → AreReadable format own now.history → IsLogged B asked.graph.edges steps hand store (store_at format own now) old now → StartsAreTicked old.history now.history
    → KeepsFaith B own asked.graph.edges store steps old.history now.history
    → IsFaithfulStore B format own asked.graph.edges now

-- What the logs tell of a run is what is claimed of the records of a build: where an edge is in hand at the exit, a fault met it.
abbrev pub RecordsAreKept : Type 0
RecordsAreKept =
    (tells : Bool) (B : Behaviour) (format : LogFormat) (own : OwnFiles) (asked : Asked) (store : Store) (steps : List Step) (hand : Option ℕ) (old now : World)
    → IsTrue tells → IsIdle old.events → IsRunOrRest tells own (task_of asked store) steps old now → IsMadeOnce asked.graph.edges
    → IsLogged B asked.graph.edges steps hand store (store_at format own now) old now
    → KeepsRecords B asked store (store_at format own now) steps hand old now

-- A verdict on the files of its judgement stands on those of the exit: what was settled by then is as it was. `mid` is the site
-- at the judgement.
abbrev pub VerdictStands : Type 0
VerdictStands =
    (tells : Bool) (own : OwnFiles) (asked : Asked) (store : Store) (before after : List Step) (i : ℕ) (out_of_date : Bool) (old mid now : World) (more : List Moment)
    → IsTrue tells → IsIdle old.events → IsMadeOnce asked.graph.edges
    → IsRunOrRest tells own (task_of asked store) before old mid → IsRunOrRest tells own (task_of asked store) (before ++ Judged i out_of_date ∷ after) old now → now.history ≡ mid.history ++ more
    → (files : FilesAreKept own asked.graph.edges old.history now.history) → RecordedApart own (recorded_inputs store asked.graph.edges)
    → IsReadAfter asked.graph.edges (λ k p. Counted asked.graph.edges store now.history k p) (done_in before) i
    → ReadsNoFree files.free asked.graph.edges store now.history i
    → IsVerdict asked.graph.edges store (well_in before) old.history mid.history i out_of_date
    → IsVerdict asked.graph.edges store (well_in before) old.history now.history i out_of_date

-- A success leaves nothing to do, but for the named exceptions.
abbrev pub NothingIsLeft : Type 0
NothingIsLeft =
    (tells : Bool) (B : Behaviour) (format : LogFormat) (own : OwnFiles) (asked : Asked) (store : Store) (steps : List Step) (met : Option ℕ) (old now : World)
    → IsTrue tells → IsIdle old.events → IsRunOrRest tells own (task_of asked store) steps old now
    → IsMadeOnce asked.graph.edges → AreLoaded asked.graph.edges steps
    → DepsHaveStarted store old.history
    → IsLogged B asked.graph.edges steps None store (store_at format own now) old now → StartsAreTicked old.history now.history
    → (premises : FilesAndReports B own asked.declared asked.graph.edges (recorded_inputs store asked.graph.edges) steps old.history now.history)
    → IsJudged B premises.kept.free asked store steps met old.history now.history
    → AreReadFirst asked.graph.edges (Matters B asked.graph.edges (recorded_inputs store asked.graph.edges) steps old.history now.history) steps
    → ((i : ℕ) → InCone asked store i → IsSettled asked.graph.edges (done_in steps) i)
    → LeavesNothing premises.quiet asked store (store_at format own now) steps old.history now.history
