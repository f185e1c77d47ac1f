-- How what a run carries of its logs begins, and how it goes on over calls that leave the logs alone.
use Rattle.std.specs.Prelude.{◌≡◌, ◌≢◌, ℕ, Bool, true, false, IsTrue, List, [], ◌⊎◌, Option, None}
use Rattle.model.specs.declared.act.Act.{Act}
use Rattle.model.specs.declared.graph.Edge.{Edge}
use Rattle.model.specs.declared.record.Record.{Record}
use Rattle.model.specs.declared.record.DepsRecord.{DepsRecord}
use Rattle.model.specs.World.{World, view_of, runs, IsRunning, IsIdle}
use Rattle.model.specs.Calls.{OnlyLooks, Starts, Finishes}
use Rattle.model.specs.Graph.{has_number, IsCommand, IsMadeOnce}
use Rattle.model.specs.Outcome.{Behaviour}
use Rattle.model.specs.Premises.{LogsAreLeft}
use Rattle.model.specs.Records.{OwnFiles, LogFormat, Store, store_in}
use Rattle.model.specs.Schedule.{Step, started_in, well_in}
use Rattle.log_text.specs.BuildLog.{Keeps, compaction}
use Rattle.log_text.specs.BuildRecord.{forms}
use Rattle.log_text.specs.DepsFormat.{ReadsLogs}
use Rattle.log_text.specs.DepsLog.{Keeps as KeepsDeps, compaction as deps_compaction}
use Rattle.log_text.specs.DepsRecordLine.{forms as deps_forms}
use Rattle.theory.specs.Writes.{GrewAt}
use Rattle.records.specs.declared.logs.Logs.{Logs}
use Rattle.records.specs.Held.{Paths, WasRead}
use Rattle.records.specs.Carried.{WhereKept}
use Rattle.records.specs.declared.records.Records.{Records}
use Rattle.records.specs.Known.{IsOf, IsOfDeps, SomeOfBoth}
use Rattle.records.specs.Logging.{IsLogging, IsLoggedStill, NoneInForce}

-- both logs were read between these worlds, and told these records
pub record WereRead (tells : Bool) (old new : World) (rs : List Record) (ds : List DepsRecord) (logs : Logs) : Type 0 where
  pub build_log : WasRead forms Keeps compaction tells old new rs logs.build_log
  pub deps_log : WasRead deps_forms KeepsDeps deps_compaction tells old new ds logs.deps_log

-- of some records they were read so
abbrev pub WereReadSo : Bool → World → World → Logs → Type 0
WereReadSo tells old new logs = SomeOfBoth (λ rs ds. WereRead tells old new rs ds logs)

-- of some records they were read so, and these are known for the paths
abbrev pub AreRead : Bool → World → World → Paths → Records → Type 0
AreRead tells old new ps it =
    (rs : List Record) × (ds : List DepsRecord) × IsOf rs ps it × IsOfDeps ds ps it × WereRead tells old new rs ds it.logs

-- the records that were read are those of the store at the entry, where others left the logs until they were read
abbrev pub AreOfEntry : Bool → LogFormat → OwnFiles → World → World → List Record → List DepsRecord → Type 0
AreOfEntry tells format own first after rs ds =
    IsTrue tells → LogsAreLeft own first.history after.history → record { records = rs; deps = ds } ≡ store_in format own (view_of first.history)

-- Where no command runs, logs that were read are logged from there on, as what they told at the entry. Between the entry and the
-- reading, and from then on until now, there were only calls that look.
abbrev pub LogBegins : Type 0
LogBegins =
    (tells : Bool) (B : Behaviour) (format : LogFormat) (own : OwnFiles) (edges : List Edge) (first before after now : World) (logs : Logs) (rs : List Record) (ds : List DepsRecord)
    → IsIdle first.events → OnlyLooks tells first before → OnlyLooks tells before after → OnlyLooks tells after now
    → logs.build_log.path ≡ own.build_log → logs.deps_log.path ≡ own.deps_log → own.build_log ≢ own.deps_log → ReadsLogs format
    → WereRead tells before after rs ds logs
    → IsLogging tells B format own edges [] None (store_in format own (view_of first.history)) first now logs × AreOfEntry tells format own first after rs ds

-- A call that starts and takes in nothing, in which the program wrote at one path alone, perhaps never: a tick, a write, a removal,
-- a look. Where the files are kept, that path is no log's.
pub record WritesElsewhere (tells : Bool) (own : OwnFiles) (edges : List Edge) (first now new : World) : Type 0 where
  pub events : new.events ≡ now.events
  pub path : List ℕ
  pub other : WhereKept tells own edges first new ((path ≢ own.build_log) × (path ≢ own.deps_log))
  pub history : IsTrue tells → GrewAt path (IsRunning now.events) now.history new.history

-- a call that writes elsewhere, or one that starts or takes in a command
abbrev pub LeavesTheLogs : Bool → OwnFiles → List Edge → World → World → World → Type 0
LeavesTheLogs tells own edges first now new =
    WritesElsewhere tells own edges first now new
    ⊎ ((i : ℕ) × (act : Act) × Starts tells i act now new)
    ⊎ ((i : ℕ) × (ok : Bool) × Finishes tells i ok now new)

-- Over such a call the logs go on, with what is logged then.
abbrev pub LogStays : Type 0
LogStays =
    (tells : Bool) (B : Behaviour) (format : LogFormat) (own : OwnFiles) (edges : List Edge) (steps many : List Step) (hand next : Option ℕ) (entry : Store) (first now new : World) (logs : Logs)
    → LeavesTheLogs tells own edges first now new → ((job : ℕ) → runs job new.events ≡ true → IsCommand edges job)
    → IsLoggedStill tells B format own edges many next entry first new
    → IsLogging tells B format own edges steps hand entry first now logs → IsLogging tells B format own edges many next entry first new logs

-- While a command has been started and has not ended well, no record of its outputs is in force.
abbrev pub NoneWhileRunning : Type 0
NoneWhileRunning =
    (tells : Bool) (B : Behaviour) (format : LogFormat) (own : OwnFiles) (edges : List Edge) (steps : List Step) (hand : Option ℕ) (entry : Store) (first now : World) (logs : Logs) (i : ℕ)
    → IsMadeOnce edges → has_number (started_in steps) i ≡ true → has_number (well_in steps) i ≡ false
    → IsLogging tells B format own edges steps hand entry first now logs → NoneInForce tells format own edges i first now
