-- An edge in hand, on its way to its start, and behind its end.
use Rattle.std.specs.Prelude.{◌≡◌, ◌++◌, ◌∷◌, [], ℕ, suc, Bool, true, if◌then◌else◌, Option, Some, None, List, get_or, Result, OnOk, OnErr, slice_set}
use Rattle.model.specs.World.{World}
use Rattle.model.specs.Schedule.{Step as Done, Started, Ended, IsLawfulStep}
use Rattle.model.specs.Phases.{NoLoadIsDue}
use Rattle.model.specs.SingleBuild.{task_of}
use Rattle.graph.specs.declared.graph.Graph.{Graph}
use Rattle.theory.specs.Ledger.{HasNoRecord}
use Rattle.records.specs.Logging.{EndedWell}
use Rattle.work.specs.Course.{Course, edges_of, goes_on, Suits, IsOn}
use Rattle.work.specs.Going.{IsCut}
use Rattle.work.specs.Telling.{WentWell}
use Rattle.work.specs.declared.reported.Told.{Told}
use Rattle.work.specs.declared.state.Work.{Work}
use Rattle.plan.specs.declared.plan.Plan.{Plan}
use Rattle.plan.specs.declared.step.Standing.TheVariants.{Running}

-- the run goes on, the edge may be started, and none of its outputs has a record in force any more
pub record IsBegun (tells : Bool) (course : Course) (graph : Graph) (i : ℕ) (state : Work) (now : World) : Type 0 where
  pub on : IsOn tells course graph (Some i) state now
  pub next : IsLawfulStep (task_of course.asked course.store) on.steps (Started i)
  pub unloaded : NoLoadIsDue (task_of course.asked course.store) on.steps
  pub goes : goes_on course ≡ true
  pub begun : HasNoRecord tells course.format course.own (edges_of course) i course.entry now

-- so it is of some course, of the edge at this place
pub record IsBegunOf (tells : Bool) (graph : Graph) (edge : ℕ) (state : Work) (now : World) : Type 0 where
  pub course : Course
  pub suits : Suits course graph
  pub begun : IsBegun tells course graph (suc edge) state now

-- the command of the edge runs now
abbrev pub RunsNow : Plan → Plan → ℕ → Type 0
RunsNow old new edge = new.standings.items ≡ slice_set old.standings.items edge Running

-- of each such course the run goes on once the command is started,
abbrev pub LaunchesOn : {S T E : Type 0} → Bool → (S → World) → S → S → ℕ → Work → Work → Result T E → Type 0
LaunchesOn tells world old new edge before after result =
    OnOk result ((course : Course) → Suits course before.graph → IsBegun tells course before.graph (suc edge) before (world old) → IsOn tells course before.graph None after (world new))

-- or a fault has cut it off
abbrev pub CutsLaunch : {S T E : Type 0} → Bool → (S → World) → S → S → ℕ → Work → Work → Result T E → Type 0
CutsLaunch tells world old new edge before after result =
    OnErr result ((course : Course) → Suits course before.graph → IsBegun tells course before.graph (suc edge) before (world old) → IsCut tells course before.graph after.plan (world new))

-- an edge whose command ended well is in hand until that is recorded
abbrev pub in_hand_after : ℕ → Bool → Option ℕ
in_hand_after i ok = if ok then Some i else None

-- the command of the edge was taken in, by the last of the steps; where it ended well, it told this
pub record IsTakenIn (tells : Bool) (course : Course) (graph : Graph) (i stamp : ℕ) (ok : Bool) (told : Told) (state : Work) (now : World) : Type 0 where
  pub on : IsOn tells course graph (in_hand_after i ok) state now
  pub before : List Done
  pub last : on.steps ≡ before ++ Ended i ok ∷ []
  pub well : ok ≡ true → WentWell tells course on.steps i stamp told now

-- it ended well, and what it told is recorded: that it is done may be recorded too
pub record MayBeDone (tells : Bool) (course : Course) (graph : Graph) (i stamp : ℕ) (state : Work) (now : World) : Type 0 where
  pub on : IsOn tells course graph (Some i) state now
  pub before : List Done
  pub last : on.steps ≡ before ++ Ended i true ∷ []
  pub well : EndedWell tells course.behaviour course.format course.own (edges_of course) on.steps i stamp course.entry now

-- ---- what is left of it

-- its command was taken in, of some course
abbrev pub IsTakenInOf : Bool → Graph → ℕ → ℕ → Bool → Told → Work → World → Type 0
IsTakenInOf tells graph edge stamp ok told state now = (course : Course) × Suits course graph × IsTakenIn tells course graph (suc edge) stamp ok told state now

-- so it was under the stamp that is noted for the edge
abbrev pub IsTakenInSo : Bool → Graph → ℕ → Bool → Told → Work → World → Type 0
IsTakenInSo tells graph edge ok told state now = IsTakenInOf tells graph edge (get_or state.starts.items edge 0) ok told state now

-- of each such course, by the stamp that is noted for the edge, the run goes on once that is recorded,
abbrev pub RecordsOn : {S T E : Type 0} → Bool → (S → World) → S → S → Graph → ℕ → Bool → Told → Work → Work → Result T E → Type 0
RecordsOn tells world old new graph edge ok told before after result =
    OnOk result ((course : Course) → Suits course graph → IsTakenIn tells course graph (suc edge) (get_or before.starts.items edge 0) ok told before (world old)
    → IsOn tells course graph None after (world new))

-- or a fault has cut it off
abbrev pub CutsRecord : {S T E : Type 0} → Bool → (S → World) → S → S → Graph → ℕ → Bool → Told → Work → Work → Result T E → Type 0
CutsRecord tells world old new graph edge ok told before after result =
    OnErr result ((course : Course) → Suits course graph → IsTakenIn tells course graph (suc edge) (get_or before.starts.items edge 0) ok told before (world old)
    → IsCut tells course graph after.plan (world new))

-- where it ended well, it may be recorded that it is done once what it told is,
abbrev pub MayBeDoneThen : {S T E : Type 0} → Bool → (S → World) → S → S → ℕ → ℕ → Told → Work → Work → Result T E → Type 0
MayBeDoneThen tells world old new edge stamp told before after result =
    OnOk result ((course : Course) → Suits course before.graph → IsTakenIn tells course before.graph (suc edge) stamp true told before (world old) → MayBeDone tells course before.graph (suc edge) stamp after (world new))

-- or a fault has cut the run off
abbrev pub CutsTelling : {S T E : Type 0} → Bool → (S → World) → S → S → ℕ → ℕ → Told → Work → Work → Result T E → Type 0
CutsTelling tells world old new edge stamp told before after result =
    OnErr result ((course : Course) → Suits course before.graph → IsTakenIn tells course before.graph (suc edge) stamp true told before (world old) → IsCut tells course before.graph after.plan (world new))
