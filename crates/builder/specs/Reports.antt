-- What the stages of a build report.
use Rattle.std.specs.Prelude.{◌≡◌, ◌⊎◌, ℕ, Bool, false, IsTrue, List, [], map, None, Result, Ok, Err, IfOk}
use Rattle.model.specs.declared.fault.SiteFault.{SiteFault}
use Rattle.model.specs.declared.fault.SiteFault.TheVariants.{Memory}
use Rattle.model.specs.World.{World, view_of, IsIdle}
use Rattle.model.specs.Calls.{HasCause, OnlyLooks}
use Rattle.model.specs.Graph.{IsMadeOnce}
use Rattle.model.specs.Premises.{LogsAreLeft}
use Rattle.model.specs.Outcome.{Behaviour}
use Rattle.model.specs.Records.{Store, OwnFiles, LogFormat, IsOwnIn, store_in, file_in, build_log_name, deps_log_name}
use Rattle.model.specs.SingleBuild.{Asked, NamesOther, task_of}
use Rattle.theory.specs.Seen.{Looked}
use Rattle.paths.specs.Told.{text_at, texts_at}
use Rattle.graph.specs.declared.cone.Cone.{Cone}
use Rattle.graph.specs.declared.cone.ConeFault.{ConeFault}
use Rattle.graph.specs.declared.cone.ConeFault.TheVariants as cone
use Rattle.graph.specs.declared.graph.Graph.{Graph}
use Rattle.graph.specs.declared.fault.GraphFault.TheVariants as graph
use Rattle.graph.specs.Targets.{IsNoCone}
use Rattle.graph.specs.Told.{declared_by}
use Rattle.judge.specs.Stores.{IsConeIn}
use Rattle.records.specs.declared.records.Records.{Records}
use Rattle.records.specs.Known.{AreKnown}
use Rattle.records.specs.Logging.{IsLogging}
use Rattle.model.specs.declared.record.Record.{Record}
use Rattle.model.specs.declared.record.DepsRecord.{DepsRecord}
use Rattle.plan.specs.declared.plan.Plan.{Plan}
use Rattle.plan.specs.Planned.{IsPlanned}
use Rattle.plan.specs.Flags.{has}
use Rattle.work.specs.declared.summary.Summary.{Summary}
use Rattle.work.specs.declared.summary.Summary.TheVariants.{Well, Failed as SomeFailed}
use Rattle.work.specs.Course.{Course, edges_of}
use Rattle.builder.specs.declared.asked.Asked.{Asked as Request}
use Rattle.builder.specs.declared.asked.Limits.{Limits}
use Rattle.work.specs.declared.report.Refusal.{Refusal}
use Rattle.work.specs.declared.report.Refusal.TheVariants.{UnknownTarget, Cycle}
use Rattle.work.specs.declared.stop.Stop.TheVariants as stop
use Rattle.work.specs.declared.report.Report.{Report}
use Rattle.work.specs.declared.report.Report.TheVariants.{Success, Failed, Refused, Fault}
use Rattle.builder.specs.Build.{asked_of}
use Rattle.depfile.specs.Depfile.{IsReading}
use Rattle.work.specs.Recorded.{IsRecordedBy, IsUnrecorded}
use Rattle.work.specs.Loads.{ReadsDyndeps}
use Rattle.work.specs.Ends.{first_output_of}
use Rattle.records.specs.Laws.{WereRead}

-- a stage that ends the build gives its report as an error
abbrev pub report_in : Result Report Report → Report
report_in (Ok report) = report
report_in (Err report) = report

-- ---- before the graph

-- the edges make a graph, and nothing is recorded of them yet
pub record IsLinked (graph : Graph) : Type 0 where
  pub once : IsMadeOnce (declared_by graph).edges
  pub inputs : (file : List ℕ) → NamesOther (declared_by graph).edges file → ⊥
  pub unrecorded : IsUnrecorded graph

-- ---- the cone

-- the refusal shows the fault: the target as it was given, or the paths round a cycle
abbrev pub ShowsFault : List (List ℕ) → List (List ℕ) → ConeFault → Refusal → Type 0
ShowsFault paths given cone.Memory refusal = ⊥
ShowsFault paths given (cone.Unknown place) refusal = refusal ≡ UnknownTarget (text_at given place)
ShowsFault paths given (cone.Cycle numbers) refusal = refusal ≡ Cycle (texts_at paths numbers)

-- these canonical targets have no cone with the recorded inputs of the graph, and the refusal shows why
pub record IsConeRefused (graph : Graph) (given targets : List (List ℕ)) (refusal : Refusal) : Type 0 where
  pub fault : ConeFault
  pub shows : ShowsFault graph.manifest.paths given fault refusal
  pub is : (asked : Asked) (store : Store) → asked.declared ≡ asked.graph.edges → asked.graph ≡ declared_by graph → asked.targets ≡ targets → IsRecordedBy graph store
      → IsNoCone asked store graph.manifest.paths fault

-- this is the cone of these targets with the recorded inputs of the graph
abbrev pub IsConeRecorded : Graph → List (List ℕ) → Cone → Type 0
IsConeRecorded graph targets cone = (store : Store) → IsRecordedBy graph store → IsConeIn graph store targets cone

-- so it is told, or there was no memory
abbrev pub SaysNoCone : Graph → List (List ℕ) → List (List ℕ) → Report → Type 0
SaysNoCone graph given targets report =
    (report ≡ Fault Memory) ⊎ ((refusal : Refusal) × (report ≡ Refused refusal) × IsConeRefused graph given targets refusal)

-- ---- missing sources

-- a call was refused, or there was no memory
pub record SaysFault (old new : World) (report : Report) : Type 0 where
  pub fault : SiteFault
  pub says : report ≡ Fault fault
  pub cause : HasCause {T = Unit {0}} old new (Err fault)

-- ---- what was read

-- what a run of a build is of, in which nothing was loaded yet
abbrev pub course_of : Behaviour → LogFormat → OwnFiles → Asked → Store → World → Course
course_of B format own asked store entry = record { behaviour = B; format = format; own = own; asked = asked; store = store; entry = entry; phases = []; refused = None }

-- the logs of these records lie in this folder
abbrev pub HasBuildLog : List ℕ → Records → Type 0
HasBuildLog folder records = records.logs.build_log.path ≡ file_in folder build_log_name

abbrev pub HasDepsLog : List ℕ → Records → Type 0
HasDepsLog folder records = records.logs.deps_log.path ≡ file_in folder deps_log_name

-- the logs were read, and what they told is known of the graph
abbrev pub ReadsRecords : {S E : Type 0} → Bool → (S → World) → S → S → Graph → Result Records E → Type 0
ReadsRecords tells world old new graph result =
    IfOk result (λ records. (rs : List Record) × (ds : List DepsRecord) × AreKnown graph rs ds records × WereRead tells (world old) (world new) rs ds records.logs)

-- The logs were read by a build of what was asked for, on this course: no command ran at its entry, since which there was only looked
-- and no call was refused; what they told is the store of the course, which is that of the entry unless somebody has written a log since; its
-- recorded inputs in use are those of the graph. From here on, as long as there is only looked, the logs go on.
pub record HasRead (tells : Bool) (graph : Graph) (request : Request) (records : Records) (course : Course) (now : World) : Type 0 where
  pub asked : course.asked ≡ asked_of (declared_by graph) request.folder request.limits request.targets
  pub reads : IsReading course.behaviour.depfile
  pub dyndeps : ReadsDyndeps course.behaviour.dyndep
  pub owned : IsOwnIn course.own request.folder
  pub found : IsTrue tells → LogsAreLeft course.own course.entry.history now.history → course.store ≡ store_in course.format course.own (view_of course.entry.history)
  pub idle : IsIdle course.entry.events
  pub looked : Looked tells course.entry now
  pub in_use : IsRecordedBy graph course.store
  pub logging : (later : World) → OnlyLooks tells now later → IsLogging tells course.behaviour course.format course.own (edges_of course) [] None course.store course.entry later records.logs
  pub known : List Record
  pub deps : List DepsRecord
  pub told : AreKnown graph known deps records
  pub store : course.store ≡ record { records = known; deps = deps }

-- ---- the run

-- in the plan of this cone nothing is judged yet, and nothing was made anew
pub record IsPlanFor (graph : Graph) (cone : Cone) (limits : Limits) (plan : Plan) : Type 0 where
  pub flags : (p : ℕ) → has plan.changed.items p ≡ false
  pub planned : (folder : List ℕ) (targets : List (List ℕ)) (store : Store) → IsRecordedBy graph store → IsConeIn graph store targets cone
      → IsPlanned (task_of (asked_of (declared_by graph) folder limits targets) store) graph plan []

-- the report of a run that was not cut off
abbrev pub SaysEnd : Graph → Summary → Report → Type 0
SaysEnd graph (Well started) report = report ≡ Success started
SaysEnd graph (SomeFailed edges) report = report ≡ Failed (map (first_output_of graph.manifest) edges.items)
