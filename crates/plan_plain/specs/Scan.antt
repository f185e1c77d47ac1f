-- What a scan of all edges looks for.
use Rattle.std.specs.Prelude.{◌≡◌, ℕ, zero, suc, ◌<◌, ◌==◌, ◌&&◌, ◌||◌, nat_lt, if◌then◌else◌, Bool, true, false, List, Option, None, Some, length, get_or}
use Rattle.std.specs.List.{list_all}
use Rattle.model.specs.Graph.{depth_of}
use Rattle.model.specs.Schedule.{is_in_pool}
use Rattle.graph.specs.declared.graph.Graph.{Graph}
use Rattle.graph.specs.Links.{Links, needs_at}
use Rattle.paths.specs.Commands.{no_action}
use Rattle.plan.specs.declared.step.Standing.{Standing}
use Rattle.plan.specs.Standing.{standing_at, is_unjudged, is_out_of_date, is_running, is_alias, maker_settled}
use Rattle.plan.specs.Pools.{pool_of}

-- a source, or what a settled edge makes
abbrev pub is_there : Links → List Standing → ℕ → Bool
is_there links standings p = maker_settled standings (links.maker p)

-- all inputs and recorded inputs of the edge are there
abbrev pub waits_for_nothing : Links → List Standing → ℕ → Bool
waits_for_nothing links standings e = list_all (is_there links standings) (needs_at links e)

abbrev pub may_judge : Links → List Standing → ℕ → Bool
may_judge links standings e = is_unjudged (standing_at standings e) && waits_for_nothing links standings e

abbrev pub may_settle : Links → List Standing → ℕ → Bool
may_settle links standings e = is_alias (standing_at standings e) && waits_for_nothing links standings e

-- ---- pools

-- the pool that the edge names
abbrev pub pool_at : Graph → ℕ → Option (List ℕ)
pool_at graph e = pool_of (get_or graph.manifest.actions e no_action)

-- the edge is in the pool with this name, and its command runs
abbrev pub runs_in : Graph → List Standing → List ℕ → ℕ → Bool
runs_in graph standings name e = is_running (standing_at standings e) && is_in_pool name (pool_at graph e)

-- how many numbers below the bound pass
abbrev pub counted : (ℕ → Bool) → ℕ → ℕ
counted test zero = 0
counted test (suc n) = if test n then suc (counted test n) else counted test n

-- fewer commands of the pool run than may; 0 is no limit
abbrev pub has_room_in : Graph → List Standing → List ℕ → Bool
has_room_in graph standings name =
    (depth_of graph.manifest.pools name == 0) || nat_lt (counted (runs_in graph standings name) (length graph.manifest.lines)) (depth_of graph.manifest.pools name)

abbrev pub has_pool_room : Graph → List Standing → Option (List ℕ) → Bool
has_pool_room graph standings None = true
has_pool_room graph standings (Some name) = has_room_in graph standings name

-- a command that is out of date, with room in its pool
abbrev pub may_start : Graph → List Standing → ℕ → Bool
may_start graph standings e = is_out_of_date (standing_at standings e) && has_pool_room graph standings (pool_at graph e)

-- ---- the lowest

pub record IsFirst (test : ℕ → Bool) (e : ℕ) : Type 0 where
  pub is : test e ≡ true
  pub lowest : (k : ℕ) → k < e → test k ≡ false

abbrev pub NonePasses : (ℕ → Bool) → Type 0
NonePasses test = (e : ℕ) → test e ≡ false
