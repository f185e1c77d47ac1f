-- A run that goes on, that has ended, or that a fault cuts off.
use Rattle.std.specs.Prelude.{◌≡◌, ◌≢◌, ◌⊎◌, ℕ, suc, ◌<◌, ◌&&◌, Bool, true, false, List, [], ◌∷◌, ◌++◌, length, Option, Some, None, MatchOption, Result, OnOk, OnErr}
use Rattle.std.specs.List.{sum_by}
use Rattle.model.specs.World.{World}
use Rattle.model.specs.Graph.{has_number, edge_at}
use Rattle.model.specs.Schedule.{Task, Step as Done, Ended, MayStart, NoneMayBeJudged, NoneMayStart, out_of_date_in, started_in, ended_in, running_in}
use Rattle.model.specs.Phases.{IsNextLoad, NoLoadIsDue}
use Rattle.model.specs.SingleBuild.{task_of}
use Rattle.theory.specs.Run.{IsRun}
use Rattle.plan.specs.Flags as flags
use Rattle.graph.specs.declared.graph.Graph.{Graph}
use Rattle.graph.specs.Links.{links_of}
use Rattle.graph.specs.Told.{declared_by}
use Rattle.theory.specs.Ledger.{IsCutOff}
use Rattle.paths.specs.Told.{text_at}
use Rattle.judge.specs.declared.looks.Looks.{Looks}
use Rattle.judge.specs.Looking.{HasLooked}
use Rattle.judge.specs.Seen.{look_at}
use Rattle.plan.specs.declared.step.End.{End}
use Rattle.plan.specs.declared.step.Standing.{Standing}
use Rattle.plan.specs.declared.step.Standing.TheVariants.{Outside, Unjudged, Clean, OutOfDate, Running, Well, Failed, Alias, Known}
use Rattle.plan.specs.declared.step.Step.{Step}
use Rattle.plan.specs.declared.step.Step.TheVariants.{Wait, Ended as Over}
use Rattle.plan.specs.declared.plan.Plan.{Plan}
use Rattle.plan.specs.Planned.{IsPlanned, AreTaken, IsNextOf, IsDueOf, IsNext}
use Rattle.work.specs.Course.{Course, goes_on, IsSince, Suits, IsOn}
use Rattle.work.specs.Restat.{IsFlagged, IsForgotten}
use Rattle.work.specs.declared.turn.Halt.{Halt}
use Rattle.work.specs.declared.turn.Halt.TheVariants as halt
use Rattle.work.specs.declared.state.Work.{Work}

-- such a run is under way, of some course: it goes on, or its next load was refused
pub record IsGoing (tells goes : Bool) (graph : Graph) (state : Work) (now : World) : Type 0 where
  pub course : Course
  pub suits : Suits course graph
  pub is : goes_on course ≡ goes
  pub on : IsOn tells course graph None state now

-- The run goes on, and this is next: a lawful step where no load is due, or the next load.
pub record IsSaid (course : Course) (graph : Graph) (steps : List Done) (step : Step) : Type 0 where
  pub goes : goes_on course ≡ true
  pub lawful : IsNextOf (task_of course.asked course.store) steps step
  pub loads : IsDueOf (task_of course.asked course.store) graph steps step

-- A command may be taken in: some run; and in a run that goes on nothing may be judged or started, and no load is due.
pub record MayTakeIn (course : Course) (steps : List Done) : Type 0 where
  pub runs : running_in steps ≢ []
  pub lawful : goes_on course ≡ true → NoneMayBeJudged (task_of course.asked course.store) steps × NoneMayStart (task_of course.asked course.store) steps × NoLoadIsDue (task_of course.asked course.store) steps

-- some command runs, whatever steps the plan is that of
abbrev pub HasRunning : Plan → Type 0
HasRunning plan = (task : Task) (graph : Graph) (steps : List Done) → IsPlanned task graph plan steps → AreTaken task steps → running_in steps ≢ []

-- a command may be taken in by this plan: some runs, and a run that goes on waits
pub record MayWait (goes : Bool) (plan : Plan) : Type 0 where
  pub runs : HasRunning plan
  pub waits : goes ≡ true → IsNext plan Wait

-- a run is under way of which a command may be taken in
pub record IsAwaiting (tells : Bool) (graph : Graph) (state : Work) (now : World) : Type 0 where
  pub goes : Bool
  pub may : MayWait goes state.plan
  pub going : IsGoing tells goes graph state now

-- nothing is left to do
pub record IsOver (tells : Bool) (course : Course) (graph : Graph) (state : Work) (end : End) (now : World) : Type 0 where
  pub on : IsOn tells course graph None state now
  pub over : IsSaid course graph on.steps (Over end)

-- this file is to be loaded next
pub record IsAtLoad (tells : Bool) (course : Course) (graph : Graph) (state : Work) (file : ℕ) (now : World) : Type 0 where
  pub on : IsOn tells course graph None state now
  pub next : IsNextLoad (task_of course.asked course.store) on.steps (text_at graph.manifest.paths file)
  pub wanted : has_number state.plan.loads.items file ≡ true
  pub known : file < length graph.manifest.paths

-- so stands a run that takes no step now
abbrev pub IsHalted : Bool → Course → Graph → Work → World → Halt → Type 0
IsHalted tells course graph state now (halt.Load file) = IsAtLoad tells course graph state file now
IsHalted tells course graph state now (halt.Ended end) = IsOver tells course graph state end now

-- all that ran was taken in
pub record IsFinished (tells : Bool) (course : Course) (graph : Graph) (state : Work) (now : World) : Type 0 where
  pub on : IsOn tells course graph None state now
  pub none : running_in on.steps ≡ []

-- The edge is next to start, or its command was taken in by the last of the steps.
pub record IsInHand (task : Task) (steps : List Done) (i : ℕ) : Type 0 where
  pub under_way : ((before : List Done) × (well : Bool) × (steps ≡ before ++ Ended i well ∷ [])) ⊎ (NoneMayBeJudged task steps × MayStart task steps i)
  pub stale : has_number (out_of_date_in steps) i ≡ true
  pub taken_in : (has_number (started_in steps) i ≡ false) ⊎ (has_number (ended_in steps) i ≡ true)

-- where a fault has left a run, with its plan: `met` is the edge whose start or taking in met it; where a load was refused before, what
-- was done since then was that commands were taken in
pub record IsCut (tells : Bool) (course : Course) (graph : Graph) (plan : Plan) (now : World) : Type 0 where
  pub steps : List Done
  pub met : Option ℕ
  pub planned : IsPlanned (task_of course.asked course.store) graph plan steps
  pub taken : AreTaken (task_of course.asked course.store) steps
  pub since : IsSince course.refused steps
  pub run : IsRun tells course.own (task_of course.asked course.store) steps course.entry now
  pub cut : IsCutOff tells course.behaviour course.format course.own course.asked course.store course.phases steps met course.entry now
  pub in_hand : (i : ℕ) → met ≡ Some i → IsInHand (task_of course.asked course.store) steps i

-- a fault has cut off some run with this plan
abbrev pub IsCutOfSome : Bool → Plan → World → Type 0
IsCutOfSome tells plan now = (course : Course) × (graph : Graph) × IsCut tells course graph plan now

-- ---- what a call leaves

-- of each course on which the run stood there, and went on or not, it is so
abbrev pub From : Bool → Bool → Graph → Work → World → (Course → Type 0) → Type 0
From tells goes graph before old Is = (course : Course) → Suits course graph → goes_on course ≡ goes → IsOn tells course graph None before old → Is course

-- it stands there still, in a run that goes on or not
abbrev pub StandsOn : Bool → Bool → Graph → World → World → Work → Work → Type 0
StandsOn tells goes graph old new before after = From tells goes graph before old (λ course. IsOn tells course graph None after new)

-- a fault has cut it off
abbrev pub IsCutFrom : Bool → Bool → Graph → World → World → Work → Work → Type 0
IsCutFrom tells goes graph old new before after = From tells goes graph before old (λ course. IsCut tells course graph after.plan new)

-- a run that goes on stands there still,
abbrev pub GoesOn : {S : Type 0} → Bool → (S → World) → S → S → Graph → Work → Work → Type 0
GoesOn tells world old new graph before after = StandsOn tells true graph (world old) (world new) before after

-- or a fault has cut it off,
abbrev pub CutsOff : {S : Type 0} → Bool → (S → World) → S → S → Graph → Work → Work → Type 0
CutsOff tells world old new graph before after = IsCutFrom tells true graph (world old) (world new) before after

-- or it stands where no step is taken now
abbrev pub Halts : {S : Type 0} → Bool → (S → World) → S → S → Graph → Work → Work → Halt → Type 0
Halts tells world old new graph before after halt = From tells true graph before (world old) (λ course. IsHalted tells course graph after (world new) halt)

-- a turn was made, or there is none to make
abbrev pub TurnsTo : {S : Type 0} → Bool → (S → World) → S → S → Graph → Work → Work → Option Halt → Type 0
TurnsTo tells world old new graph before after halt = MatchOption halt (GoesOn tells world old new graph before after) (λ halt. Halts tells world old new graph before after halt)

-- where a command may be taken in, it stands there still,
abbrev pub WaitsOn : {S : Type 0} → Bool → (S → World) → S → S → Graph → Work → Work → Type 0
WaitsOn tells world old new graph before after = (goes : Bool) → MayWait goes before.plan → StandsOn tells goes graph (world old) (world new) before after

-- or a fault has cut it off
abbrev pub WaitsCut : {S : Type 0} → Bool → (S → World) → S → S → Graph → Work → Work → Type 0
WaitsCut tells world old new graph before after = (goes : Bool) → MayWait goes before.plan → IsCutFrom tells goes graph (world old) (world new) before after

-- of a run whose next load was refused all that ran was taken in,
abbrev pub TakesAllIn : {S T E : Type 0} → Bool → (S → World) → S → S → Work → Work → Result T E → Type 0
TakesAllIn tells world old new before after result = OnOk result (From tells false before.graph before (world old) (λ course. IsFinished tells course before.graph after (world new)))

-- or a fault has cut it off
abbrev pub CutsTaking : {S T E : Type 0} → Bool → (S → World) → S → S → Work → Work → Result T E → Type 0
CutsTaking tells world old new before after result = OnErr result (IsCutFrom tells false before.graph (world old) (world new) before after)

-- ---- the end of a command

-- the end of a command changes nothing of these
pub record IsSameBeside (old new : Work) : Type 0 where
  pub records : new.records ≡ old.records
  pub cone : new.cone ≡ old.cone
  pub tick : new.tick ≡ old.tick
  pub starts : new.starts.items ≡ old.starts.items

-- What the end of the command of an edge changes beside its plan's steps: what was seen of its outputs is forgotten, and where it
-- ended well and has `restat` they are looked at anew; an output counts as changed unless its stamp is seen to be the same.
pub record HasEnded (tells : Bool) (graph : Graph) (e : ℕ) (ok : Bool) (was now : World) (old new : Work) : Type 0 where
  pub changed : (p : ℕ) → has_number ((links_of graph).outputs e) p ≡ true
      → IsFlagged (ok && (edge_at (declared_by graph).edges (suc e)).restat) (look_at old.looks.seen.items p) (look_at new.looks.seen.items p) (flags.has new.plan.changed.items p)
  pub unchanged : (p : ℕ) → has_number ((links_of graph).outputs e) p ≡ false → flags.has new.plan.changed.items p ≡ flags.has old.plan.changed.items p
  pub between : Looks
  pub forgets : IsForgotten graph e old.looks between
  pub looked : HasLooked tells graph was now between new.looks
  pub beside : IsSameBeside old new

-- so it has ended where that could be noted
abbrev pub NotesEnd : {S T E : Type 0} → Bool → (S → World) → S → S → ℕ → Bool → Work → Work → Result T E → Type 0
NotesEnd tells world old new e ok before after result = OnOk result (HasEnded tells before.graph e ok (world old) (world new) before after)

-- the failed edges, when the command of one more has ended
abbrev pub failed_after : List ℕ → ℕ → Bool → List ℕ
failed_after failed e true = failed
failed_after failed e false = failed ++ e ∷ []

-- the edge is among the failed ones where its command has failed, behind those of before
abbrev pub NotesFailure : Work → Work → ℕ → Bool → Type 0
NotesFailure before after e ok = after.failed.items ≡ failed_after before.failed.items e ok

-- ---- the work that is left

-- how many steps of its own an edge may still make
abbrev pub steps_left : Standing → ℕ
steps_left Outside = 0
steps_left Unjudged = 3
steps_left Clean = 0
steps_left OutOfDate = 2
steps_left Running = 1
steps_left Well = 0
steps_left Failed = 0
steps_left Alias = 0
steps_left Known = 0

abbrev pub work_left : List Standing → ℕ
work_left standings = sum_by steps_left standings

-- less of it is left
abbrev pub ComesNearer : Work → Work → Type 0
ComesNearer before after = work_left after.plan.standings.items < work_left before.plan.standings.items

-- a turn leaves less of it
abbrev pub IsNearer : Work → Work → Option Halt → Type 0
IsNearer before after halt = MatchOption halt (ComesNearer before after) (λ halt. Unit {0})
