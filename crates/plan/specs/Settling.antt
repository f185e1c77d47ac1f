-- What is settled once an edge is.
use Rattle.std.specs.Prelude.{◌≡◌, ◌⊎◌, ℕ, suc, ◌==◌, ◌<◌, ◌-◌, if◌then◌else◌, slice_set, Bool, true, false, List, length, slice_index, count_by, Some}
use Rattle.model.specs.declared.graph.Edge.{Edge}
use Rattle.model.specs.Graph.{edge_at, has_number}
use Rattle.model.specs.Schedule.{Task, IsSettled}
use Rattle.plan.specs.Flags.{has}
use Rattle.graph.specs.declared.graph.Graph.{Graph}
use Rattle.graph.specs.Links.{Links, needs_at, links_of}
use Rattle.plan.specs.declared.plan.Plan.{Plan}
use Rattle.plan.specs.declared.step.Standing.{Standing}
use Rattle.plan.specs.declared.step.Standing.TheVariants.{Alias}
use Rattle.plan.specs.Standing.{standing_at, awaits, is_settled, maker_settled, StaysOrSettles}
use Rattle.plan.specs.Plan.{is_missing}
use Rattle.plan.specs.Planned.{IsTaskOf}

-- the counts alone, while what a settled edge makes comes in path by path
pub record IsCounted (links : Links) (paths : ℕ) (standings : List Standing) (left : List ℕ) (there : List Bool) : Type 0 where
  pub edges : length standings ≡ links.count
  pub known : length there ≡ paths
  pub counts : (e : ℕ) → awaits (standing_at standings e) ≡ true → slice_index left e ≡ count_by (is_missing there) (needs_at links e)

-- what the edge makes
abbrev pub outputs_in : Graph → ℕ → List ℕ
outputs_in graph edge = (links_of graph).outputs edge

-- of the first so many paths these are there
abbrev pub AreAllThere : ℕ → List ℕ → List Bool → Type 0
AreAllThere count paths there = (p : ℕ) → p < count → has_number paths p ≡ true → has there p ≡ true

-- each other path is there where it was
abbrev pub OthersAreAsBefore : List ℕ → List Bool → List Bool → Type 0
OthersAreAsBefore paths old new = (p : ℕ) → has_number paths p ≡ false → has new p ≡ has old p

-- so are those that the plan keeps
abbrev pub IsCountedIn : Graph → Plan → Type 0
IsCountedIn graph plan = IsCounted (links_of graph) (length graph.manifest.paths) plan.standings.items plan.left.items plan.there.items

-- one less is left of the edge
abbrev pub lowered : List ℕ → ℕ → List ℕ
lowered left e = slice_set left e (slice_index left e - 1)

-- one less is left of an edge that waits
abbrev pub lowered_for : Standing → List ℕ → ℕ → List ℕ
lowered_for standing left e = if awaits standing then lowered left e else left

-- the edge is in the set where no more than one was left
abbrev pub raised : List Bool → List ℕ → ℕ → List Bool
raised flags left e = if slice_index left e == 1 then slice_set flags e true else flags

-- nothing but what edges wait for is changed
pub record IsStill (old new : Plan) : Type 0 where
  pub standings : new.standings.items ≡ old.standings.items
  pub queue : new.queue ≡ old.queue
  pub changed : new.changed ≡ old.changed
  pub loads : new.loads ≡ old.loads
  pub running : new.running ≡ old.running
  pub failed : new.failed ≡ old.failed
  pub well : new.well ≡ old.well
  pub jobs : new.jobs ≡ old.jobs
  pub keep : new.keep ≡ old.keep

-- an alias may only be settled; nothing else is changed but what edges wait for
pub record SettlesAliases (old new : Plan) : Type 0 where
  pub fits : length new.standings.items ≡ length old.standings.items
  pub stands : (e : ℕ) → StaysOrSettles (standing_at old.standings.items e) (standing_at new.standings.items e)
  pub queue : new.queue ≡ old.queue
  pub changed : new.changed ≡ old.changed
  pub loads : new.loads ≡ old.loads
  pub running : new.running ≡ old.running
  pub failed : new.failed ≡ old.failed
  pub well : new.well ≡ old.well
  pub jobs : new.jobs ≡ old.jobs
  pub keep : new.keep ≡ old.keep

-- what is settled in the plan is so by what was done
abbrev pub IsSound : List Edge → List ℕ → Plan → Type 0
IsSound edges done plan = (e : ℕ) → is_settled (standing_at plan.standings.items e) ≡ true → IsSettled edges done (suc e)

-- where all that is settled in the plan is so by what was done, it is so afterwards
abbrev pub KeepsSound : Graph → Plan → Plan → Type 0
KeepsSound graph old new =
    (task : Task) (done : List ℕ) → IsTaskOf task graph → ((e : ℕ) → standing_at old.standings.items e ≡ Alias → (edge_at task.graph.edges (suc e)).phony ≡ true)
    → IsSound task.graph.edges done old → IsSound task.graph.edges done new

-- what the edge makes may not be there yet; what else settled edges make is
pub record IsAhead (graph : Graph) (edge : ℕ) (plan : Plan) : Type 0 where
  pub counted : IsCountedIn graph plan
  pub sound : (p : ℕ) → has plan.there.items p ≡ true → maker_settled plan.standings.items ((links_of graph).maker p) ≡ true
  pub complete : (p : ℕ) → p < length graph.manifest.paths → maker_settled plan.standings.items ((links_of graph).maker p) ≡ true → (has plan.there.items p ≡ true) ⊎ ((links_of graph).maker p ≡ Some edge)
