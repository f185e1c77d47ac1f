-- What is found of sources, in the words of a build's report.
use Rattle.std.specs.Prelude.{◌≡◌, ◌⊎◌, Bool, List, ℕ, Err, Result, OnOk, IfOk, IfErr, Vec}
use Rattle.std.specs.declared.alloc.Global.{Global}
use Rattle.model.specs.declared.fault.SiteFault.{SiteFault}
use Rattle.model.specs.World.{World}
use Rattle.model.specs.Calls.{HasCause}
use Rattle.model.specs.OutOfDate.{NothingIsMissing}
use Rattle.model.specs.Schedule.{Step}
use Rattle.model.specs.Records.{Store}
use Rattle.model.specs.SingleBuild.{IsNamedMissing}
use Rattle.theory.specs.Seen.{Unrefused}
use Rattle.graph.specs.declared.cone.Cone.{Cone}
use Rattle.graph.specs.declared.graph.Graph.{Graph}
use Rattle.graph.specs.Told.{declared_by}
use Rattle.judge.specs.UnderWay.{IsUnderWay}
use Rattle.judge.specs.Quiet.{IfQuiet}
use Rattle.judge.specs.declared.looks.Looks.{Looks}
use Rattle.records.specs.declared.records.Records.{Records}
use Rattle.plan.specs.declared.plan.Plan.{Plan}
use Rattle.work.specs.declared.report.Missing.{Missing as Lacking}
use Rattle.work.specs.declared.report.Refusal.TheVariants.{Missing}
use Rattle.work.specs.declared.state.Work.{Work}
use Rattle.work.specs.declared.stop.Stop.{Stop}
use Rattle.work.specs.declared.stop.Stop.TheVariants as stop
use Rattle.work.specs.Loads.{NamesSource}
use Rattle.work.specs.Ends.{IsMissingFor, first_output_of}
use Rattle.std.specs.Option.{option_map}
use Rattle.judge.specs.Lacks.{HasDue}
use Rattle.judge.specs.declared.lack.Lack.{Lack}

-- the state of a run of which nothing is changed but what was seen
abbrev pub with_looks : Work → Looks → Work
with_looks state looks =
    record { alloc = state.alloc; graph = state.graph; cone = state.cone; plan = state.plan; looks = looks; records = state.records; display = state.display; tick = state.tick; due = state.due; starts = state.starts; failed = state.failed }

-- a call was refused, or there was no memory
pub record IsFault (old new : World) (stopped : Stop) : Type 0 where
  pub fault : SiteFault
  pub says : stopped ≡ stop.Fault fault
  pub cause : HasCause {T = Unit {0}} old new (Err fault)

-- a source of this cone is missing, of each build under way, and no call was refused
pub record SaysMissing (tells : Bool) (graph : Graph) (records : Records) (cone : Cone) (plan : Plan) (old new : World) (seen : Looks) (stopped : Stop) : Type 0 where
  pub missing : Lacking
  pub says : stopped ≡ stop.Refused (Missing missing)
  pub unrefused : Unrefused old new
  pub named : NamesSource (declared_by graph).edges missing.path missing.needed_by
  pub needed : (store : Store) (targets : List (List ℕ)) (before : List Step) → IsUnderWay graph records cone plan store targets before
      → IsNamedMissing (declared_by graph).edges store targets missing.path missing.needed_by
  pub is : (store : Store) (targets : List (List ℕ)) (before : List Step) → IsUnderWay graph records cone plan store targets before
      → IfQuiet tells graph store targets before old new seen (λ files. IsMissingFor (declared_by graph).edges store before targets files missing.path missing.needed_by)

-- no source of this cone is missing, of each build under way
abbrev pub HasSources : Bool → Graph → Records → Cone → Plan → World → World → Looks → Type 0
HasSources tells graph records cone plan old new seen =
    (store : Store) (targets : List (List ℕ)) (before : List Step) → IsUnderWay graph records cone plan store targets before
    → IfQuiet tells graph store targets before old new seen (λ files. NothingIsMissing (declared_by graph).edges store before files targets)

-- a source of this cone is missing, or that was not to be seen
abbrev pub LacksSource : Bool → Graph → Records → Cone → Plan → World → World → Looks → Stop → Type 0
LacksSource tells graph records cone plan old new seen stopped = IsFault old new stopped ⊎ SaysMissing tells graph records cone plan old new seen stopped

-- ---- so it is of the state of a run

-- each flag says whether the edge is in its cone and due
abbrev pub FindsDueFlags : {S E : Type 0} → Bool → (S → World) → S → S → Work → Result (Vec Bool Global) E → Type 0
FindsDueFlags tells world old new state result =
    IfOk result (λ due. HasDue tells state.graph state.records state.cone state.plan (world old) (world new) state.looks due.items)

-- no source of its cone is missing,
abbrev pub FindsSources : {S T E : Type 0} → Bool → (S → World) → S → S → Work → Result T E → Type 0
FindsSources tells world old new state result = OnOk result (HasSources tells state.graph state.records state.cone state.plan (world old) (world new) state.looks)

-- or one is, or that was not to be seen
abbrev pub FindsLacking : {S T : Type 0} → Bool → (S → World) → S → S → Work → Result T Stop → Type 0
FindsLacking tells world old new state result = IfErr result (LacksSource tells state.graph state.records state.cone state.plan (world old) (world new) state.looks)

-- the edge that needs what is missing is told by its first output
abbrev pub TellsWhoNeeds : Graph → Lack → Lacking → Type 0
TellsWhoNeeds graph lack missing = missing.needed_by ≡ option_map (first_output_of graph.manifest) lack.needed_by
