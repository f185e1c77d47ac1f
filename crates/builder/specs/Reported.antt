-- How a build begins, and how its run is reported.
use Rattle.std.specs.Prelude.{◌≡◌, ◌⊎◌, List, [], length, replicate, vec_len, Result, Ok, Err, IfErr}
use Rattle.model.specs.declared.fault.SiteFault.TheVariants.{Memory}
use Rattle.model.specs.declared.graph.Edge.{Edge}
use Rattle.model.specs.World.{World, IsIdle}
use Rattle.model.specs.Phases.{Phase}
use Rattle.model.specs.Outcome.{Behaviour}
use Rattle.model.specs.Records.{LogFormat, OwnFiles, Store, IsOwnIn, file_in, tick_name}
use Rattle.model.specs.SingleBuild.{PassesNoFault}
use Rattle.std.specs.Prelude.{Bool}
use Rattle.theory.specs.Seen.{IsSeen, Looked}
use Rattle.graph.specs.declared.graph.Graph.{Graph}
use Rattle.graph.specs.Told.{declared_by}
use Rattle.log_text.specs.DepsFormat.{ReadsLogs}
use Rattle.depfile.specs.Depfile.{IsReading}
use Rattle.judge.specs.declared.looks.Look.TheVariants.{Unasked}
use Rattle.work.specs.declared.state.Work.{Work}
use Rattle.work.specs.declared.summary.Summary.{Summary}
use Rattle.work.specs.Course.{Course}
use Rattle.builder.specs.declared.asked.Asked.{Asked as Request}
use Rattle.work.specs.declared.report.Report.{Report}
use Rattle.work.specs.declared.report.Report.TheVariants.{Fault}
use Rattle.work.specs.declared.stop.Stop.{Stop}
use Rattle.work.specs.Loads.{ReadsDyndeps}
use Rattle.work.specs.Standing.{BeginsAt, HasEndedSo, IfFault, stop_answer}
use Rattle.builder.specs.Build.{asked_of}
use Rattle.builder.specs.Reports.{IsConeRecorded, IsPlanFor, HasRead, SaysEnd, course_of}
use Rattle.work.specs.Ends.{report_of}

-- in this state of a run nothing was judged, seen or started yet, and ticks are in the folder that was asked for
pub record IsFresh (graph : Graph) (request : Request) (state : Work) : Type 0 where
  pub plan : IsPlanFor graph state.cone request.limits state.plan
  pub looks : state.looks.seen.items ≡ replicate (length graph.manifest.paths) Unasked
  pub tick : state.tick ≡ file_in request.folder tick_name
  pub failed : state.failed.items ≡ []
  pub starts : vec_len state.starts ≡ length graph.manifest.lines

-- The logs were read, and the recorded inputs that are in use joined the graph: over that a run of what was asked begins in this state.
-- So it is for any own files of the program that lie in the folder, for each format and each reading of depfiles and of dyndep files, and
-- for each entry since which there was only looked.
pub record Opens (tells : Bool) (graph : Graph) (request : Request) (old new : World) (state : Work) : Type 0 where
  pub same : declared_by state.graph ≡ declared_by graph
  pub fresh : IsFresh state.graph request state
  pub coned : IsConeRecorded state.graph request.targets state.cone
  pub store : Store
  pub read : (B : Behaviour) (format : LogFormat) (own : OwnFiles) (entry : World) → IsReading B.depfile → ReadsDyndeps B.dyndep → ReadsLogs format → IsOwnIn own request.folder → IsIdle entry.events → Looked tells entry old
      → HasRead tells state.graph request state.records (course_of B format own (asked_of (declared_by state.graph) request.folder request.limits request.targets) store entry) new

-- the report of a run that ended so, or want of memory to tell it
abbrev pub IsReportOf : Graph → Result Summary Stop → Report → Type 0
IsReportOf graph (Ok summary) report = (report ≡ Fault Memory) ⊎ SaysEnd graph summary report
IsReportOf graph (Err stopped) report = report ≡ report_of stopped

-- a run that began so has ended, over these edges, and this is its report
pub record IsReported (tells : Bool) (graph : Graph) (state : Work) (old : World) (after : Graph) (last : Work) (new : World) (report : Report) : Type 0 where
  pub grown : List Edge
  pub said : Result Summary Stop
  pub ended : (course : Course) (edges : List Edge) (phases : List Phase) → BeginsAt tells course edges phases graph state old → HasEndedSo tells course grown after last.cone new said
  pub faults : PassesNoFault old new (stop_answer said)
  pub seen : IfErr said (λ stopped. IfFault stopped (IsSeen old new))
  pub is : IsReportOf after said report

-- so it is of a site
abbrev pub ReportsSo : {S : Type 0} → Bool → (S → World) → S → S → Work → Work → Report → Type 0
ReportsSo tells world old new before after report = IsReported tells before.graph before (world old) after.graph after (world new) report
