-- What a plain plan knows of a build, by the steps so far.
use Rattle.std.specs.Prelude.{◌≡◌, ◌⊎◌, ℕ, suc, Bool, true, false, List, [], ◌∷◌, ◌++◌, length, None}
use Rattle.model.specs.declared.graph.Edge.{Edge}
use Rattle.model.specs.Graph.{edge_at, IsCommand}
use Rattle.model.specs.Reading.{IsInCone}
use Rattle.model.specs.Schedule.{Task, Step as Done, IsLawfulStep, IsSettled, done_in}
use Rattle.graph.specs.declared.graph.Graph.{Graph}
use Rattle.graph.specs.declared.cone.Cone.{Cone}
use Rattle.graph.specs.declared.cone.Mark.{Mark}
use Rattle.graph.specs.Links.{Links, links_of}
use Rattle.graph.specs.Cone.{is_listed, mark_at}
use Rattle.graph.specs.Extended.{dyndep_at}
use Rattle.graph.specs.Linked.{IsConeOf}
use Rattle.plan.specs.declared.step.Standing.{Standing}
use Rattle.plan.specs.declared.step.Standing.TheVariants.{Outside, Unjudged, OutOfDate, Alias, Known}
use Rattle.plan.specs.declared.step.Step.{Step}
use Rattle.plan.specs.declared.step.Step.TheVariants.{Load, Judge, Start, Wait, Ended as Over}
use Rattle.plan.specs.Standing.{standing_at, is_outside, is_phony, is_settled}
use Rattle.plan.specs.Planned.{IsTaskOf, IsNextOf, IsDueOf, AreTaken, standing_in}
use Rattle.plan_plain.specs.declared.plain.Plan.{Plan}
use Rattle.plan_plain.specs.Scan.{may_settle, NonePasses}

-- no edge names a dyndep file
abbrev pub NamesNone : Graph → Type 0
NamesNone graph = (e : ℕ) → dyndep_at graph e ≡ None

-- a plan in which all that follows from what it was told is settled, over a graph without dyndep files
pub record IsPlanOver (graph : Graph) (plan : Plan) : Type 0 where
  pub plain : NamesNone graph
  pub edges : length plan.standings.items ≡ length graph.manifest.lines
  pub flags : length plan.changed.items ≡ length graph.manifest.paths
  pub settled : NonePasses (may_settle (links_of graph) plan.standings.items)

-- what is settled is so by what was done
abbrev pub IsSound : List Edge → List ℕ → List Standing → Type 0
IsSound edges done standings = (e : ℕ) → is_settled (standing_at standings e) ≡ true → IsSettled edges done (suc e)

-- edges stand as they do in this task after these steps
pub record AreStood (task : Task) (standings : List Standing) (steps : List Done) : Type 0 where
  pub within : (e : ℕ) → is_outside (standing_at standings e) ≡ false → IsInCone task.graph.edges task.recorded task.targets (suc e)
  pub inside : (e : ℕ) → IsInCone task.graph.edges task.recorded task.targets (suc e) → is_outside (standing_at standings e) ≡ false
  pub kinds : (e : ℕ) → is_outside (standing_at standings e) ≡ false → is_phony (standing_at standings e) ≡ (edge_at task.graph.edges (suc e)).phony
  pub stands : (e : ℕ) → IsInCone task.graph.edges task.recorded task.targets (suc e) → IsCommand task.graph.edges (suc e) → standing_at standings e ≡ standing_in steps (suc e)
  pub settled : IsSound task.graph.edges (done_in steps) standings

-- a plan over this graph is that of the task after these steps
pub record IsPlanned (task : Task) (graph : Graph) (plan : Plan) (steps : List Done) : Type 0 where
  pub stated : IsTaskOf task graph
  pub limits : (plan.jobs ≡ task.jobs) × (plan.keep ≡ task.keep)
  pub over : IsPlanOver graph plan
  pub stood : AreStood task plan.standings.items steps

-- whatever is to be built of this cone under these limits, the plan is that of its beginning
abbrev pub IsFirstPlan : Graph → Cone → ℕ → ℕ → Plan → Type 0
IsFirstPlan graph cone jobs keep plan =
    (task : Task) → IsTaskOf task graph → task.jobs ≡ jobs → task.keep ≡ keep
    → IsConeOf task.graph.edges task.recorded task.targets cone.order.items cone.marks.items → IsPlanned task graph plan []

-- whatever is built, the plan after steps is, with one more lawful one, that of the steps and it
abbrev pub TakesStep : Graph → Plan → Plan → Done → Type 0
TakesStep graph old new step =
    (task : Task) (steps : List Done) → IsPlanned task graph old steps → AreTaken task steps → IsLawfulStep task steps step → IsPlanned task graph new (steps ++ step ∷ [])

-- so it is over each graph
abbrev pub TakesStepInAny : Plan → Plan → Done → Type 0
TakesStepInAny old new step =
    (task : Task) (graph : Graph) (steps : List Done) → IsPlanned task graph old steps → AreTaken task steps → IsLawfulStep task steps step
    → IsPlanned task graph new (steps ++ step ∷ [])

-- for whatever steps the plan is that of, what is said next is a lawful step, where it is one
abbrev pub IsLawfulNext : Graph → Plan → Step → Type 0
IsLawfulNext graph plan step = (task : Task) (steps : List Done) → IsPlanned task graph plan steps → AreTaken task steps → IsNextOf task steps step

-- and a load just where one is due
abbrev pub IsDueNext : Graph → Plan → Step → Type 0
IsDueNext graph plan step = (task : Task) (steps : List Done) → IsPlanned task graph plan steps → AreTaken task steps → IsDueOf task graph steps step

-- what is said may be told to the plan
abbrev pub IsOffered : Plan → Step → Type 0
IsOffered plan (Load file) = ⊥
IsOffered plan (Judge e) = standing_at plan.standings.items e ≡ Unjudged
IsOffered plan (Start e) = standing_at plan.standings.items e ≡ OutOfDate
IsOffered plan Wait = Unit {0}
IsOffered plan (Over end) = Unit {0}

-- ---- the beginning, and what a call changes

-- by whether the edge is in the cone, and whether it has no command
abbrev pub first_standing : Bool → Bool → Standing
first_standing false phony = Outside
first_standing true true = Alias
first_standing true false = Unjudged

-- each edge stands as it does before the first judgement
pub record AreFirst (links : Links) (marks : List Mark) (standings : List Standing) : Type 0 where
  pub fits : length standings ≡ links.count
  pub stands : (e : ℕ) → standing_at standings e ≡ first_standing (is_listed (mark_at marks e)) (links.phony e)

-- an alias may only be settled; nothing else is changed
pub record SettlesAliases (old new : Plan) : Type 0 where
  pub fits : length new.standings.items ≡ length old.standings.items
  pub stands : (e : ℕ) → (standing_at new.standings.items e ≡ standing_at old.standings.items e) ⊎ ((standing_at old.standings.items e ≡ Alias) × (standing_at new.standings.items e ≡ Known))
  pub changed : new.changed ≡ old.changed
  pub jobs : new.jobs ≡ old.jobs
  pub keep : new.keep ≡ old.keep

-- the edges that stand as aliases have no command
abbrev pub AreAliases : List Edge → List Standing → Type 0
AreAliases edges standings = (e : ℕ) → standing_at standings e ≡ Alias → (edge_at edges (suc e)).phony ≡ true

-- what is settled stays so by what was done
abbrev pub StaySound : Graph → List Standing → List Standing → Type 0
StaySound graph old new =
    (task : Task) (done : List ℕ) → IsTaskOf task graph → AreAliases task.graph.edges old → IsSound task.graph.edges done old → IsSound task.graph.edges done new
