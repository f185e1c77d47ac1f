-- What a run carries of its logs.
use Rattle.std.specs.Prelude.{◌≡◌, ◌≢◌, ℕ, Bool, true, IsTrue, List, [], ◌++◌, Option, Some, None}
use Rattle.model.specs.declared.event.Moment.{Moment}
use Rattle.model.specs.declared.graph.Edge.{Edge}
use Rattle.model.specs.declared.record.DepsRecord.{DepsRecord}
use Rattle.model.specs.World.{World, view_of, runs}
use Rattle.model.specs.Graph.{has, has_number, edge_at, outputs, IsCommand}
use Rattle.model.specs.Outcome.{Behaviour, depfile_in, listed}
use Rattle.model.specs.Records.{OwnFiles, LogFormat, Store, Told, store_in, in_force, deps_in_force, ListsOnce}
use Rattle.model.specs.Schedule.{Step, started_in, well_in}
use Rattle.model.specs.Premises.{FilesAreKept, EndedAt}
use Rattle.model.specs.Kept.{StartedUnder}
use Rattle.log_text.specs.BuildLog.{Keeps}
use Rattle.log_text.specs.BuildRecord.{forms}
use Rattle.log_text.specs.DepsFormat.{ReadsLogs}
use Rattle.log_text.specs.DepsLog.{Keeps as KeepsDeps}
use Rattle.log_text.specs.DepsRecordLine.{forms as deps_forms}
use Rattle.theory.specs.Logged.{IsLoggedAt}
use Rattle.records.specs.declared.logs.Logs.{Logs}
use Rattle.records.specs.Held.{IsSameLog}
use Rattle.records.specs.Carried.{WhereKept, IsHeldStill}

-- of neither log anything changed but what may be done with its file
pub record AreSameLogs (old new : Logs) : Type 0 where
  pub build_log : IsSameLog old.build_log new.build_log
  pub deps_log : IsSameLog old.deps_log new.deps_log

-- what the logs tell of the run, where the site tells its files and the files are kept
abbrev pub IsLoggedStill : Bool → Behaviour → LogFormat → OwnFiles → List Edge → List Step → Option ℕ → Store → World → World → Type 0
IsLoggedStill tells B format own edges steps hand entry first now = WhereKept tells own edges first now (IsLoggedAt B format own edges steps hand entry first now)

-- A run that goes on has what its logs tell, the files of its logs behind which records may be put, and only commands that run.
-- `hand` is the edge whose start or taking in is under way, `entry` what the logs told at the entry, where the site was `first`.
pub record IsLogging (tells : Bool) (B : Behaviour) (format : LogFormat) (own : OwnFiles) (edges : List Edge) (steps : List Step) (hand : Option ℕ) (entry : Store) (first now : World) (logs : Logs) : Type 0 where
  pub build_log : logs.build_log.path ≡ own.build_log
  pub deps_log : logs.deps_log.path ≡ own.deps_log
  pub apart : own.build_log ≢ own.deps_log
  pub reads : ReadsLogs format
  pub commands : (job : ℕ) → runs job now.events ≡ true → IsCommand edges job
  pub grows : IsTrue tells → (so_far : List Moment) × (now.history ≡ first.history ++ so_far)
  pub build_held : IsHeldStill forms Keeps tells own edges first now logs.build_log
  pub deps_held : IsHeldStill deps_forms KeepsDeps tells own edges first now logs.deps_log
  pub logged : IsLoggedStill tells B format own edges steps hand entry first now

-- no output of the edge has a record in force
abbrev pub NoneInForce : Bool → LogFormat → OwnFiles → List Edge → ℕ → World → World → Type 0
NoneInForce tells format own edges i first now =
    IsTrue tells → FilesAreKept own edges first.history now.history
    → (o : List ℕ) → has (outputs (edge_at edges i)) o ≡ true → in_force (store_in format own (view_of now.history)).records o ≡ None

-- the deps record of all outputs of the edge
abbrev pub deps_of : List Edge → ℕ → ℕ → List (List ℕ) → DepsRecord
deps_of edges i stamp paths = record { outputs = outputs (edge_at edges i); start = stamp; paths = paths }

-- each output of the edge has the deps record of this start and these paths in force
abbrev pub IsReported : Bool → LogFormat → OwnFiles → List Edge → ℕ → ℕ → List (List ℕ) → World → World → Type 0
IsReported tells format own edges i stamp paths first now =
    IsTrue tells → FilesAreKept own edges first.history now.history
    → (o : List ℕ) → has (outputs (edge_at edges i)) o ≡ true → deps_in_force (store_in format own (view_of now.history)).deps o ≡ Some (record { start = stamp; paths = paths })

-- the command of the edge, which has a depfile, was started under this stamp, and none of its outputs has a record in force
pub record MayReport (tells : Bool) (format : LogFormat) (own : OwnFiles) (edges : List Edge) (steps : List Step) (i stamp : ℕ) (first now : World) : Type 0 where
  pub depfile : (edge_at edges i).act.depfile ≢ []
  pub started : has_number (started_in steps) i ≡ true
  pub under : StartedUnder i stamp first now
  pub none : NoneInForce tells format own edges i first now

-- The command of the edge was started under this stamp and ended well, and was taken in. If it has a depfile, its outputs have
-- the deps record of this start in force, with the paths that the depfile listed when it ended.
pub record EndedWell (tells : Bool) (B : Behaviour) (format : LogFormat) (own : OwnFiles) (edges : List Edge) (steps : List Step) (i stamp : ℕ) (first now : World) : Type 0 where
  pub well : has_number (well_in steps) i ≡ true
  pub started : StartedUnder i stamp first now
  pub ended : IsTrue tells → (at : List Moment) × EndedAt i first.history now.history at
  pub told : (edge_at edges i).act.depfile ≢ [] → (tell : IsTrue tells) → FilesAreKept own edges first.history now.history → (o : List ℕ) → has (outputs (edge_at edges i)) o ≡ true
      → (deps : Told) × (deps_in_force (store_in format own (view_of now.history)).deps o ≡ Some deps) × (deps.start ≡ stamp)
      × ListsOnce deps.paths (listed (depfile_in B (edge_at edges i).act (view_of (ended tell).0)))
