-- What a plan knows of a build, and what it says next, by the steps so far.
use Rattle.std.specs.Prelude.{◌≡◌, ◌≢◌, ℕ, zero, suc, ◌==◌, ◌<◌, Bool, true, false, if◌then◌else◌, List, [], ◌∷◌, ◌++◌, length, slice_index, filter, Option, None, Some, get_or}
use Rattle.std.specs.Option.{option_map}
use Rattle.model.specs.Graph.{has_number, edge_at, maker, later_number, IsCommand}
use Rattle.model.specs.Reading.{IsInCone}
use Rattle.model.specs.Phases.{IsNextLoad, NoLoadIsDue}
use Rattle.theory.specs.Order.{IsOrderly}
use Rattle.model.specs.Schedule.{Task, Step as Done, Judged, Started, Ended, IsLawfulStep, NoneMayBeJudged, NoneMayStart, IsSettled, judged_in, clean_in, out_of_date_in, started_in, well_in, failed_in, running_in, done_in}
use Rattle.plan.specs.Flags.{has, AreNone}
use Rattle.plan.specs.Turns.{Turns, group_at, may}
use Rattle.graph.specs.declared.graph.Graph.{Graph}
use Rattle.graph.specs.Links.{links_of, needs_at}
use Rattle.graph.specs.declared.cone.Cone.{Cone}
use Rattle.graph.specs.Linked.{IsLinksOf, IsConeOf}
use Rattle.graph.specs.Told.{declared_by, recorded_by, AreSameInputs}
use Rattle.graph.specs.Extended.{dyndep_at}
use Rattle.paths.specs.Numbers.{HaveOnePlace}
use Rattle.paths.specs.Commands.{no_action}
use Rattle.paths.specs.Told.{text_at}
use Rattle.plan.specs.declared.plan.Plan.{Plan}
use Rattle.plan.specs.declared.step.Standing.{Standing}
use Rattle.plan.specs.declared.step.Standing.TheVariants.{Unjudged, Clean, OutOfDate, Running, Well, Failed}
use Rattle.plan.specs.declared.step.Verdict.{Verdict}
use Rattle.plan.specs.declared.step.Verdict.TheVariants as verdict
use Rattle.plan.specs.declared.step.End.TheVariants as ending
use Rattle.plan.specs.declared.step.Step.{Step}
use Rattle.plan.specs.declared.step.Step.TheVariants.{Load, Judge, Start, Wait, Ended as Over}
use Rattle.plan.specs.Standing.{standing_at, is_outside, is_phony, is_settled}
use Rattle.plan.specs.Pools.{pool_of}
use Rattle.plan.specs.Plan.{IsOver, IsPooled}
use Rattle.plan.specs.Loads.{IsLoading}

-- the plan keeps what is there, and what edges wait for, by the graph
abbrev pub IsOverIn : Graph → Plan → Type 0
IsOverIn graph plan = IsOver (links_of graph) (length graph.manifest.paths) plan.standings.items plan.left.items plan.there.items

-- a plan in which all that follows from what it was told is settled
pub record IsPlanOver (graph : Graph) (plan : Plan) : Type 0 where
  pub over : IsOverIn graph plan
  pub settled : AreNone plan.pending
  pub pooled : IsPooled graph plan.standings.items plan.queue
  pub flags : length plan.changed.items ≡ length graph.manifest.paths
  pub loading : IsLoading graph plan.standings.items plan.queue plan.loads.items

-- the numbers of the graph say who waits for whom among the task's edges, which of them are aliases, in which pools they are,
-- and which dyndep files they name; aliases have no recorded inputs
pub record IsTaskOf (task : Task) (graph : Graph) : Type 0 where
  pub linked : IsLinksOf task.graph.edges task.recorded (links_of graph)
  pub numbered : (e k : ℕ) → k < length (needs_at (links_of graph) e) → slice_index (needs_at (links_of graph) e) k < length graph.manifest.paths
  pub phony : (e : ℕ) → (links_of graph).phony e ≡ (edge_at task.graph.edges (suc e)).phony
  pub pools : task.graph.pools ≡ graph.manifest.pools
  pub pool : (e : ℕ) → (edge_at task.graph.edges (suc e)).pool ≡ pool_of (get_or graph.manifest.actions e no_action)
  pub bare : (i : ℕ) → (edge_at task.graph.edges i).phony ≡ true → task.recorded i ≡ []
  pub makers : (p : ℕ) → p < length graph.manifest.paths → maker task.graph.edges (text_at graph.manifest.paths p) ≡ later_number ((links_of graph).maker p)
  pub apart : HaveOnePlace graph.manifest.paths
  pub files : (e : ℕ) → (edge_at task.graph.edges (suc e)).dyndep ≡ option_map (text_at graph.manifest.paths) (dyndep_at graph e)
  pub known : (e p : ℕ) → dyndep_at graph e ≡ Some p → p < length graph.manifest.paths

-- the task is to build what the graph declares, with the inputs that it has recorded, and none are of aliases
pub record IsDeclaredTask (task : Task) (graph : Graph) : Type 0 where
  pub declared : task.graph ≡ declared_by graph
  pub recorded : AreSameInputs task.recorded (recorded_by graph)
  pub bare : (i : ℕ) → (edge_at (declared_by graph).edges i).phony ≡ true → recorded_by graph i ≡ []

-- what has become of a command of the cone by these steps
abbrev pub standing_in : List Done → ℕ → Standing
standing_in steps i =
    if has_number (well_in steps) i then Well
    else if has_number (failed_in steps) i then Failed
    else if has_number (started_in steps) i then Running
    else if has_number (out_of_date_in steps) i then OutOfDate
    else if has_number (clean_in steps) i then Clean
    else Unjudged

-- whether it is this place
abbrev pub is_place : Option ℕ → ℕ → Bool
is_place None g = false
is_place (Some h) g = h == g

-- whether the edge with this number is in the pool of this place
abbrev pub is_grouped : Turns → ℕ → ℕ → Bool
is_grouped turns g zero = false
is_grouped turns g (suc e) = is_place (group_at turns e) g

-- What holds of steps whatever was loaded among them: they are orderly over the task's edges, and only edges of its cone were
-- judged.
pub record AreTaken (task : Task) (steps : List Done) : Type 0 where
  pub orderly : IsOrderly task.graph.edges steps
  pub within : (i : ℕ) → has_number (judged_in steps) i ≡ true → IsInCone task.graph.edges task.recorded task.targets i

-- a plan over this graph is that of the task after these steps
pub record IsPlanned (task : Task) (graph : Graph) (plan : Plan) (steps : List Done) : Type 0 where
  pub stated : IsTaskOf task graph
  pub limits : (plan.jobs ≡ task.jobs) × (plan.keep ≡ task.keep)
  pub over : IsPlanOver graph plan
  pub within : (e : ℕ) → is_outside (standing_at plan.standings.items e) ≡ false → IsInCone task.graph.edges task.recorded task.targets (suc e)
  pub inside : (e : ℕ) → IsInCone task.graph.edges task.recorded task.targets (suc e) → is_outside (standing_at plan.standings.items e) ≡ false
  pub kinds : (e : ℕ) → is_outside (standing_at plan.standings.items e) ≡ false → is_phony (standing_at plan.standings.items e) ≡ (edge_at task.graph.edges (suc e)).phony
  pub stands : (e : ℕ) → IsInCone task.graph.edges task.recorded task.targets (suc e) → IsCommand task.graph.edges (suc e) → standing_at plan.standings.items e ≡ standing_in steps (suc e)
  pub settled : (e : ℕ) → is_settled (standing_at plan.standings.items e) ≡ true → IsSettled task.graph.edges (done_in steps) (suc e)
  pub runs : (g : ℕ) → slice_index plan.queue.running g ≡ length (filter (is_grouped plan.queue g) (running_in steps))

-- whatever is to be built of this cone under these limits, the plan is that of its beginning
abbrev pub IsFirstPlan : Graph → Cone → ℕ → ℕ → Plan → Type 0
IsFirstPlan graph cone jobs keep plan =
    (task : Task) → IsTaskOf task graph → task.jobs ≡ jobs → task.keep ≡ keep
    → IsConeOf task.graph.edges task.recorded task.targets cone.order.items cone.marks.items → IsPlanned task graph plan []

-- a step that a plan may be told: a lawful judgement or start, and the end of a command that runs, which comes behind a refused load
-- where something else may be done, too
abbrev pub MayTell : Task → List Done → Done → Type 0
MayTell task steps (Judged i stale) = IsLawfulStep task steps (Judged i stale)
MayTell task steps (Started i) = IsLawfulStep task steps (Started i)
MayTell task steps (Ended i well) = has_number (running_in steps) i ≡ true

-- whatever is built, the plan after steps is, with one more that it may be told, that of the steps and it
abbrev pub TakesStep : Graph → Plan → Plan → Done → Type 0
TakesStep graph old new step =
    (task : Task) (steps : List Done) → IsPlanned task graph old steps → AreTaken task steps → MayTell task steps step → IsPlanned task graph new (steps ++ step ∷ [])

-- so many edges stand in this list of the steps, whatever steps the plan is that of
abbrev pub IsCountIn : Plan → (List Done → List ℕ) → ℕ → Type 0
IsCountIn plan list count = (task : Task) (graph : Graph) (steps : List Done) → IsPlanned task graph plan steps → AreTaken task steps → count ≡ length (list steps)

-- whether the verdict says that the command has to run
abbrev pub is_stale : Verdict → Bool
is_stale verdict.Clean = false
is_stale verdict.OutOfDate = true

-- what is said next is a lawful step, where it is one; and a build waits, or has ended, only where nothing may be judged or started
abbrev pub IsNextOf : Task → List Done → Step → Type 0
IsNextOf task steps (Load file) = Unit {0}
IsNextOf task steps (Judge e) = (stale : Bool) → IsLawfulStep task steps (Judged (suc e) stale)
IsNextOf task steps (Start e) = IsLawfulStep task steps (Started (suc e))
IsNextOf task steps Wait = NoneMayBeJudged task steps × NoneMayStart task steps × (running_in steps ≢ [])
IsNextOf task steps (Over ending.Well) = NoneMayBeJudged task steps × NoneMayStart task steps × (running_in steps ≡ []) × (failed_in steps ≡ [])
IsNextOf task steps (Over ending.Failed) = NoneMayBeJudged task steps × NoneMayStart task steps × (running_in steps ≡ []) × (failed_in steps ≢ [])

-- so it is for whatever steps the plan is that of
abbrev pub IsLawfulNext : Plan → Step → Type 0
IsLawfulNext plan step = (task : Task) (graph : Graph) (steps : List Done) → IsPlanned task graph plan steps → AreTaken task steps → IsNextOf task steps step

-- the file is loaded next; and all else is said only where no load is due
abbrev pub IsDueOf : Task → Graph → List Done → Step → Type 0
IsDueOf task graph steps (Load file) = IsNextLoad task steps (text_at graph.manifest.paths file)
IsDueOf task graph steps (Judge e) = NoLoadIsDue task steps
IsDueOf task graph steps (Start e) = NoLoadIsDue task steps
IsDueOf task graph steps Wait = NoLoadIsDue task steps
IsDueOf task graph steps (Over end) = NoLoadIsDue task steps

-- so it is for whatever steps the plan is that of
abbrev pub IsDueNext : Plan → Step → Type 0
IsDueNext plan step = (task : Task) (graph : Graph) (steps : List Done) → IsPlanned task graph plan steps → AreTaken task steps → IsDueOf task graph steps step

-- what is said may be told to the plan
abbrev pub IsOffered : Plan → Step → Type 0
IsOffered plan (Load file) = has_number plan.loads.items file ≡ true
IsOffered plan (Judge e) = has plan.ready e ≡ true
IsOffered plan (Start e) = may plan.queue e ≡ true
IsOffered plan Wait = Unit {0}
IsOffered plan (Over end) = Unit {0}

-- this is said next: it may be told to the plan, is a lawful step where it is one, and is a load just where one is due
pub record IsNext (plan : Plan) (step : Step) : Type 0 where
  pub offered : IsOffered plan step
  pub lawful : IsLawfulNext plan step
  pub loads : IsDueNext plan step
