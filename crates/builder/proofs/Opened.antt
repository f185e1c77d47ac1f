-- A run that begins once the logs were read.
use Rattle.std.proofs.Common.{◌≡◌, Bool, false, List, ℕ, [], refl, sym, subst}
use Rattle.model.specs.declared.graph.BuildGraph.{BuildGraph}
use Rattle.model.specs.declared.act.Act.{Act}
use Rattle.model.specs.declared.outcome.Outcome.{Outcome}
use Rattle.model.specs.World.{World, View, IsIdle}
use Rattle.model.specs.Graph.{IsMadeOnce}
use Rattle.model.specs.Outcome.{Behaviour}
use Rattle.model.specs.Records.{LogFormat, OwnFiles, IsOwnIn}
use Rattle.model.specs.SingleBuild.{NamesOther}
use Rattle.theory.specs.Seen.{Looked}
use Rattle.graph.specs.declared.graph.Graph.{Graph}
use Rattle.graph.specs.Told.{declared_by}
use Rattle.log_text.specs.DepsFormat.{HasFormat, ReadsLogs}
use Rattle.depfile.specs.Depfile.{HasReading, IsReading}
use Rattle.dyndep_law.specs.Readings.{HasReading as HasDyndeps}
use Rattle.manifest.specs.Answer.{IsGraph}
use Rattle.work.specs.declared.report.Report.{Report}
use Rattle.work.specs.declared.state.Work.{Work}
use Rattle.work.specs.Course.{Course}
use Rattle.work.specs.Loads.{ReadsDyndeps}
use Rattle.work.specs.Standing.{BeginsAt}
use Rattle.builder.specs.declared.asked.Asked.{Asked as Request}
use Rattle.builder.specs.Build.{Builds, asked_of}
use Rattle.builder.specs.Parts.{BuildsAsked}
use Rattle.builder.specs.Reports.{HasRead, IsLinked, course_of}
use Rattle.builder.specs.Reported.{IsReported, Opens}
use Rattle.builder.proofs.Builds.{any_own, own_in, looked_nothing}
use Rattle.builder.proofs.Stages.{reads_dyndeps}
use Rattle.builder.proofs.Beginning.{begins_this, begins_here}
use Rattle.builder.proofs.Endings.{builds_reported}

module _ (tells : Bool) (graph : Graph) (request : Request) (old mid : World) (state : Work) (opens : Opens tells graph request old mid state) (formed : IsGraph (declared_by graph)) (linked : IsLinked graph) where
  formed_still : IsGraph (declared_by state.graph)
  formed_still = subst (λ (b : BuildGraph). IsGraph b) (sym {A = BuildGraph} opens.same) formed

  once_still : IsMadeOnce (declared_by state.graph).edges
  once_still = subst (λ (b : BuildGraph). IsMadeOnce b.edges) (sym {A = BuildGraph} opens.same) linked.once

  others_still : (file : List ℕ) → NamesOther (declared_by state.graph).edges file → ⊥
  others_still = subst (λ (b : BuildGraph). (file : List ℕ) → NamesOther b.edges file → ⊥) (sym {A = BuildGraph} opens.same) linked.inputs

  -- on each course it begins with a phase
  module _ (B : Behaviour) (format : LogFormat) (own : OwnFiles) (entry : World) (depfiles : IsReading B.depfile) (dyndeps : ReadsDyndeps B.dyndep) (reads : ReadsLogs format) (owned : IsOwnIn own request.folder) (idle : IsIdle entry.events) (looked : Looked tells entry old) where
    abbrev pub opened_course : Course
    opened_course = course_of B format own (asked_of (declared_by state.graph) request.folder request.limits request.targets) opens.store entry

    has : HasRead tells state.graph request state.records opened_course mid
    has = opens.read B format own entry depfiles dyndeps reads owned idle looked

    pub opened_begins : BeginsAt tells opened_course (declared_by state.graph).edges [] state.graph state mid
    opened_begins =
        begins_this tells state.graph request state.records opened_course mid has formed_still once_still others_still state.cone opens.coned state.plan opens.fresh.plan state.looks
        opens.fresh.looks state refl refl refl opens.fresh.failed opens.fresh.starts opens.fresh.tick refl

    -- and is reported with all that is promised of a build
    pub opened_builds : (after : Graph) (last : Work) (exit : World) (report : Report) → (told : IsReported tells state.graph state mid after last exit report)
        → Builds tells B format own (declared_by graph) request.folder request.limits request.given.now request.targets told.grown entry exit report
    opened_builds after last exit report told =
        subst (λ (b : BuildGraph). Builds tells B format own b request.folder request.limits request.given.now request.targets told.grown entry exit report) opens.same
        (builds_reported tells state.graph request state.records opened_course mid has once_still others_still state.cone opens.coned state after last exit report told opened_begins
        (begins_here tells state.graph request state.records opened_course mid has formed_still once_still others_still state.cone opens.coned state.plan opens.fresh.plan state.looks
        opens.fresh.looks state refl refl refl opens.fresh.failed opens.fresh.starts opens.fresh.tick refl))

  pub opened_reported : (after : Graph) (last : Work) (exit : World) (report : Report) → IsReported tells state.graph state mid after last exit report → BuildsAsked tells (declared_by graph) request old exit report
  opened_reported after last exit report told = (
    told.grown,
    λ B format own entry depfiles dyndeps reads owned idle looked. opened_builds B format own entry depfiles dyndeps reads owned idle looked after last exit report told,
  )

  -- it begins with some reading of depfiles and of dyndep files, some format, and files of its own of which none is kept
  module _ (outcome : Act → View → Outcome) (format : HasFormat) (reading : HasReading) (dyndeps : HasDyndeps) (idle : IsIdle old.events) (runs : old.stopped ≡ false) where
    abbrev some_behaviour : Behaviour
    some_behaviour = record { outcome = outcome; depfile = reading.0; dyndep = (reads_dyndeps dyndeps).0 }

    abbrev pub some_course : Course
    some_course = opened_course some_behaviour format.0 (any_own request.folder) old reading.1 (reads_dyndeps dyndeps).1 format.1 (own_in request.folder) idle (looked_nothing tells old runs)

    pub some_begins : BeginsAt tells some_course (declared_by state.graph).edges [] state.graph state mid
    some_begins = opened_begins some_behaviour format.0 (any_own request.folder) old reading.1 (reads_dyndeps dyndeps).1 format.1 (own_in request.folder) idle (looked_nothing tells old runs)
