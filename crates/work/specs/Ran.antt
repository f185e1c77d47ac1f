-- How a build ends that ran commands.
use Rattle.std.specs.Prelude.{◌≡◌, ◌<◌, ℕ, suc, Bool, true, false, List, [], map, length, All, Option, Some, None, Result, Ok, Err, IfOk, Vec}
use Rattle.std.specs.declared.alloc.Global.{Global}
use Rattle.model.specs.World.{World}
use Rattle.model.specs.Schedule.{Step, well_in, failed_in}
use Rattle.model.specs.Phases.{NoLoadIsDue}
use Rattle.model.specs.SingleBuild.{task_of}
use Rattle.theory.specs.Run.{IsRun}
use Rattle.graph.specs.declared.graph.Graph.{Graph}
use Rattle.theory.specs.Ledger.{IsCutOff}
use Rattle.plan.specs.declared.plan.Plan.{Plan}
use Rattle.plan.specs.declared.step.End.TheVariants as ending
use Rattle.plan.specs.declared.step.Step.TheVariants.{Ended as Over}
use Rattle.plan.specs.Planned.{IsNextOf}
use Rattle.work.specs.declared.cut.Cut.{Cut}
use Rattle.work.specs.declared.state.Work.{Work}
use Rattle.work.specs.declared.summary.Pause.{Pause}
use Rattle.work.specs.declared.summary.Pause.TheVariants.{Load, Ended}
use Rattle.work.specs.declared.summary.Summary.{Summary}
use Rattle.work.specs.declared.summary.Summary.TheVariants.{Well, Failed}
use Rattle.work.specs.declared.turn.Halt.{Halt}
use Rattle.work.specs.Course.{Course, HasCone, edges_of, IsSince}
use Rattle.work.specs.Going.{IsInHand, IsAtLoad, IsFinished, IsHalted, IsCut, From, IsOver}
use Rattle.work.specs.Removing.{AreRemoved}
use Rattle.plan.specs.declared.step.End.{End}

-- a run that was not cut off went on until nothing was left to do
abbrev pub EndsRun : Bool → Course → List Step → Option ℕ → World → Result Summary Cut → Type 0
EndsRun tells course steps met new (Ok (Well started)) =
    (met ≡ None) × IsRun tells course.own (task_of course.asked course.store) steps course.entry new
    × IsNextOf (task_of course.asked course.store) steps (Over ending.Well) × NoLoadIsDue (task_of course.asked course.store) steps × (started ≡ length (well_in steps))
EndsRun tells course steps met new (Ok (Failed edges)) =
    (met ≡ None) × IsRun tells course.own (task_of course.asked course.store) steps course.entry new
    × IsNextOf (task_of course.asked course.store) steps (Over ending.Failed) × NoLoadIsDue (task_of course.asked course.store) steps × (map suc edges.items ≡ failed_in steps)
EndsRun tells course steps met new (Err cut) = Unit {0}

-- What a run has done at its end: its steps, its verdicts, and what its logs tell, as the theory of builds with logs asks for them;
-- how that ended, and that no load was refused where it ended by itself; which edge met the fault, if the start or the taking in of one
-- did; what was done since a load was refused, if one was; and that a run which was not cut off has removed its response files.
pub record HasRun (tells : Bool) (course : Course) (new : World) (result : Result Summary Cut) : Type 0 where
  pub steps : List Step
  pub met : Option ℕ
  pub cut : IsCutOff tells course.behaviour course.format course.own course.asked course.store course.phases steps met course.entry new
  pub in_hand : (i : ℕ) → met ≡ Some i → IsInHand (task_of course.asked course.store) steps i
  pub since : IsSince course.refused steps
  pub ends : EndsRun tells course steps met new result
  pub goes : IfOk result (λ summary. cut.phased.build.taken_in ≡ [])
  pub removed : IfOk result (λ summary. AreRemoved tells course.own (edges_of course) steps None course.entry new)

-- the edges are those of the graph
abbrev pub AreEdgesOf : Graph → Summary → Type 0
AreEdgesOf graph (Well started) = Unit {0}
AreEdgesOf graph (Failed edges) = All (λ e. e < length graph.manifest.lines) edges.items

-- What a run leaves that went on: it stands before the next load, or has ended, over the cone that the state has, or a fault has cut it off.
abbrev pub HasPaused : Bool → Course → Graph → Work → World → Result Pause Cut → Type 0
HasPaused tells course graph state new (Ok (Load file)) = IsAtLoad tells course graph state file new
HasPaused tells course graph state new (Ok (Ended summary)) = HasRun tells course new (Ok summary) × HasCone course.asked course.store graph state.cone
HasPaused tells course graph state new (Err cut) = HasRun tells course new (Err cut)

-- What a run leaves that a refused load has ended: all that ran was taken in, or a fault has cut it off.
abbrev pub HasFinished : Bool → Course → Graph → Work → World → Result (Unit {0}) Cut → Type 0
HasFinished tells course graph state new (Ok done) = IsFinished tells course graph state new
HasFinished tells course graph state new (Err cut) = HasRun tells course new (Err cut)

-- of each course on which the run stood there, and went on, it has paused so,
abbrev pub PausesSo : {S : Type 0} → Bool → (S → World) → S → S → Graph → Work → Work → Result Pause Cut → Type 0
PausesSo tells world old new graph before after result = From tells true graph before (world old) (λ course. HasPaused tells course graph after (world new) result)

-- or ended so after a refused load
abbrev pub EndsSo : {S : Type 0} → Bool → (S → World) → S → S → Graph → Work → Work → Result (Unit {0}) Cut → Type 0
EndsSo tells world old new graph before after result = From tells false graph before (world old) (λ course. HasFinished tells course graph after (world new) result)

-- what had cut a run off, whatever its course, its steps and the edge that met it, has cut it off still
abbrev pub CutsStay : Bool → World → World → Type 0
CutsStay tells old new =
    (course : Course) (steps : List Step) (met : Option ℕ) → IsCutOff tells course.behaviour course.format course.own course.asked course.store course.phases steps met course.entry old
    → IsCutOff tells course.behaviour course.format course.own course.asked course.store course.phases steps met course.entry new

-- a pause names a path of the graph, or edges of it
abbrev pub IsPauseOf : Graph → Pause → Type 0
IsPauseOf graph (Load file) = file < length graph.manifest.paths
IsPauseOf graph (Ended summary) = AreEdgesOf graph summary

-- ---- why a run pauses

-- each run that halted so has paused so
abbrev pub Pauses : Work → Work → Halt → Pause → Type 0
Pauses old new halt pause =
    (tells : Bool) (course : Course) (graph : Graph) (now : World) → IsHalted tells course graph old now halt → HasPaused tells course graph new now (Ok pause) × IsPauseOf graph pause

-- each run that is over so, with this plan and these failed edges, has come to this, and names edges of its graph
abbrev pub SumsUp : Plan → Vec ℕ Global → End → Summary → Type 0
SumsUp plan failed end summary =
    (tells : Bool) (course : Course) (graph : Graph) (state : Work) (now : World) → plan ≡ state.plan → failed ≡ state.failed → IsOver tells course graph state end now
    → HasRun tells course now (Ok summary) × AreEdgesOf graph summary

-- of each run that the fault cut off, it has ended so
abbrev pub EndsCut : Bool → Plan → World → World → Cut → Type 0
EndsCut tells plan old new cut = (course : Course) (graph : Graph) → IsCut tells course graph plan old → HasRun tells course new (Err cut)
