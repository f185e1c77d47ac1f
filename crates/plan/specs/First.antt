-- How a plan begins.
use Rattle.std.specs.Prelude.{◌≡◌, ℕ, ◌<◌, Bool, true, false, if◌then◌else◌, List, replicate, length, slice_index, slice_index_or, get_or, count_by, Option, None, is_none}
use Rattle.plan.specs.Flags.{has, AreNone}
use Rattle.plan.specs.Turns.{Turns, AreWithin}
use Rattle.graph.specs.declared.cone.Mark.{Mark}
use Rattle.graph.specs.declared.graph.Graph.{Graph}
use Rattle.graph.specs.Cone.{mark_at, is_listed}
use Rattle.graph.specs.Links.{Links, needs_at, links_of}
use Rattle.paths.specs.Commands.{no_action}
use Rattle.plan.specs.declared.plan.Plan.{Plan}
use Rattle.plan.specs.declared.step.Standing.{Standing}
use Rattle.plan.specs.declared.step.Standing.TheVariants.{Outside, Unjudged, Alias}
use Rattle.plan.specs.Standing.{standing_at, is_outside, awaits}
use Rattle.plan.specs.Pools.{place_in, pool_of, depths_of}
use Rattle.plan.specs.Plan.{is_missing, IsPooled}
use Rattle.plan.specs.Loads.{IsLoading}
use Rattle.plan.specs.Planned.{IsOverIn}

-- an edge of the cone waits to be judged or, where it has no command, for its inputs
abbrev pub first_of : Bool → Bool → Standing
first_of listed phony = if listed then (if phony then Alias else Unjudged) else Outside

-- where an edge stands before the first step
abbrev pub first_at : Links → List Mark → ℕ → Standing
first_at links marks e = first_of (is_listed (mark_at marks e)) (links.phony e)

-- where edges stand before the first step
pub record AreFirst (links : Links) (marks : List Mark) (standings : List Standing) : Type 0 where
  pub fits : length standings ≡ links.count
  pub each : (e : ℕ) → standing_at standings e ≡ first_at links marks e

-- just the sources are there
pub record AreSources (links : Links) (paths : ℕ) (there : List Bool) : Type 0 where
  pub fits : length there ≡ paths
  pub each : (p : ℕ) → p < paths → has there p ≡ is_none (links.maker p)

-- of each edge that waits, how many of its inputs and recorded inputs are not there
pub record AreCounts (links : Links) (standings : List Standing) (there : List Bool) (left : List ℕ) : Type 0 where
  pub fits : length left ≡ length standings
  pub each : (e : ℕ) → awaits (standing_at standings e) ≡ true → slice_index left e ≡ count_by (is_missing there) (needs_at links e)

-- no edge waits for its start, and no command runs
pub record IsIdle (graph : Graph) (standings : List Standing) (turns : Turns) : Type 0 where
  pub pooled : IsPooled graph standings turns
  pub fits : length turns.waiting ≡ length standings
  pub none : AreNone turns.waiting
  pub idle : (g : ℕ) → slice_index turns.running g ≡ 0

-- the pool of each edge of the cone, where it has one with a limit
pub record AreGroups (graph : Graph) (standings : List Standing) (groups : List (Option ℕ)) : Type 0 where
  pub fits : length groups ≡ length standings
  pub each : (e : ℕ) → is_outside (standing_at standings e) ≡ false → slice_index_or groups e None ≡ place_in graph.manifest.pools (pool_of (get_or graph.manifest.actions e no_action))
  pub within : AreWithin (length (depths_of graph.manifest.pools)) groups

-- the pool of each edge, in the cone or not, where it has one with a limit
abbrev pub AreAllGroups : Graph → List (Option ℕ) → Type 0
AreAllGroups graph groups = (e : ℕ) → slice_index_or groups e None ≡ place_in graph.manifest.pools (pool_of (get_or graph.manifest.actions e no_action))

-- a plan in which nothing is settled
pub record IsBegun (graph : Graph) (marks : List Mark) (jobs keep : ℕ) (plan : Plan) : Type 0 where
  pub first : AreFirst (links_of graph) marks plan.standings.items
  pub over : IsOverIn graph plan
  pub idle : IsIdle graph plan.standings.items plan.queue
  pub flags : plan.changed.items ≡ replicate (length graph.manifest.paths) false
  pub limits : (plan.jobs ≡ jobs) × (plan.keep ≡ keep)
  pub loading : IsLoading graph plan.standings.items plan.queue plan.loads.items
