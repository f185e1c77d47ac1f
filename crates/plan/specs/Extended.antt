-- How a plan goes on when a dyndep file is loaded.
use Rattle.std.specs.Prelude.{◌≡◌, ℕ, ◌<◌, ◌≤◌, true, List, length}
use Rattle.model.specs.Graph.{has, edge_at, Addition, IsMadeOnce}
use Rattle.model.specs.Phases.{IsGrownBy}
use Rattle.model.specs.Schedule.{Task, Step as Done}
use Rattle.graph.specs.declared.graph.Graph.{Graph}
use Rattle.graph.specs.declared.cone.Cone.{Cone}
use Rattle.graph.specs.Linked.{IsConeOf}
use Rattle.graph.specs.Told.{declared_by}
use Rattle.graph.specs.Extended.{HasLoaded}
use Rattle.plan.specs.declared.plan.Plan.{Plan}
use Rattle.plan.specs.Planned.{IsPlanOver, IsPlanned, IsTaskOf, AreTaken}

-- a file is to be loaded, and the graph has the same edges as the plan's, with no fewer paths, in the same pools
pub record MayGoOn (graph : Graph) (plan : Plan) : Type 0 where
  pub before : Graph
  pub over : IsPlanOver before plan
  pub some : 0 < length plan.loads.items
  pub edges : length graph.manifest.lines ≡ length before.manifest.lines
  pub paths : length before.manifest.paths ≤ length graph.manifest.paths
  pub pools : graph.manifest.pools ≡ before.manifest.pools
  pub pool : (i : ℕ) → (edge_at (declared_by graph).edges i).pool ≡ (edge_at (declared_by before).edges i).pool

-- The edges have what a dyndep file adds, and no path is made twice; recorded inputs that were in use are so still. All else is asked as
-- before.
pub record IsGrownTask (old new : Task) : Type 0 where
  pub file : List ℕ
  pub additions : List Addition
  pub grown : IsGrownBy file additions old.graph.edges new.graph.edges
  pub once : IsMadeOnce new.graph.edges
  pub recorded : (i : ℕ) (p : List ℕ) → has (old.recorded i) p ≡ true → has (new.recorded i) p ≡ true
  pub targets : new.targets ≡ old.targets
  pub jobs : new.jobs ≡ old.jobs
  pub keep : new.keep ≡ old.keep

-- what the plan over this graph was that of, it is that of the same steps over the edges as they are now, where this is the cone of them
abbrev pub GoesOnFrom : Graph → Graph → Cone → Plan → Plan → Type 0
GoesOnFrom before graph cone old new =
    (earlier task : Task) (steps : List Done) → IsPlanned earlier before old steps → AreTaken earlier steps
    → IsTaskOf task graph → IsGrownTask earlier task → IsConeOf task.graph.edges task.recorded task.targets cone.order.items cone.marks.items
    → IsPlanned task graph new steps × AreTaken task steps

-- whatever the plan was that of, it is that of the same steps over the edges as they are now, where this is the cone of them
abbrev pub GoesOn : Graph → Cone → Plan → Plan → Type 0
GoesOn graph cone old new =
    (before : Graph) (earlier task : Task) (steps : List Done) → IsPlanned earlier before old steps → AreTaken earlier steps
    → IsTaskOf task graph → IsGrownTask earlier task → IsConeOf task.graph.edges task.recorded task.targets cone.order.items cone.marks.items
    → IsPlanned task graph new steps × AreTaken task steps

-- a plan with a file to be loaded may go on over the graph that has loaded one
abbrev pub LoadsGoOn : Type 0
LoadsGoOn =
    (before after : Graph) (file : List ℕ) (additions : List Addition) (plan : Plan) → IsPlanOver before plan → 0 < length plan.loads.items
    → HasLoaded before after file additions → MayGoOn after plan
