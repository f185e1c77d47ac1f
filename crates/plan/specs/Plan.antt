-- What a plan keeps.
use Rattle.std.specs.Prelude.{◌≡◌, ◌≢◌, ℕ, ◌==◌, ◌<◌, ◌&&◌, ◌||◌, nat_lt, not, Bool, true, false, List, length, slice_index, count_by, get_or}
use Rattle.plan.specs.Flags.{has}
use Rattle.plan.specs.Turns.{Turns, group_at}
use Rattle.graph.specs.Links.{Links, needs_at}
use Rattle.graph.specs.declared.graph.Graph.{Graph}
use Rattle.paths.specs.Commands.{no_action}
use Rattle.plan.specs.declared.step.Standing.{Standing}
use Rattle.plan.specs.declared.step.Standing.TheVariants.{Clean, OutOfDate, Well, Failed}
use Rattle.plan.specs.declared.step.Verdict.{Verdict}
use Rattle.plan.specs.declared.step.Verdict.TheVariants as verdict
use Rattle.plan.specs.Standing.{standing_at, is_unjudged, is_out_of_date, is_running, is_failed, is_well, is_alias, is_outside, awaits, maker_settled, StaysOrSettles}
use Rattle.plan.specs.Pools.{place_in, pool_of, depths_of}

-- ---- what holds of any plan

-- a command may be judged, and an alias be settled, where it waits for nothing
pub record IsReady (standings : List Standing) (left : List ℕ) (commands aliases : List Bool) : Type 0 where
  pub ready : (e : ℕ) → has commands e ≡ (is_unjudged (standing_at standings e) && (slice_index left e == 0))
  pub pending : (e : ℕ) → has aliases e ≡ (is_alias (standing_at standings e) && (slice_index left e == 0))

-- the commands that wait for their start are those out of date
pub record IsWaiting (standings : List Standing) (turns : Turns) : Type 0 where
  pub fits : length turns.waiting ≡ length standings
  pub waits : (e : ℕ) → has turns.waiting e ≡ is_out_of_date (standing_at standings e)

-- so many commands run, have failed, and have ended well
pub record IsTallied (standings : List Standing) (running failed well : ℕ) : Type 0 where
  pub runs : running ≡ count_by is_running standings
  pub fails : failed ≡ count_by is_failed standings
  pub ends : well ≡ count_by is_well standings

-- ---- a plan over a graph

-- whether the path is not there
abbrev pub is_missing : List Bool → ℕ → Bool
is_missing there p = not (has there p)

-- the paths that are there are the sources and what settled edges make; of each edge that may wait, the inputs and
-- recorded inputs that are not there are counted, one that is named twice twice
pub record IsOver (links : Links) (paths : ℕ) (standings : List Standing) (left : List ℕ) (there : List Bool) : Type 0 where
  pub edges : length standings ≡ links.count
  pub known : length there ≡ paths
  pub counts : (e : ℕ) → awaits (standing_at standings e) ≡ true → slice_index left e ≡ count_by (is_missing there) (needs_at links e)
  pub sound : (p : ℕ) → has there p ≡ true → maker_settled standings (links.maker p) ≡ true
  pub complete : (p : ℕ) → p < paths → maker_settled standings (links.maker p) ≡ true → has there p ≡ true

-- each command of the cone is in the pool that it names, where that has a limit
pub record IsPooled (graph : Graph) (standings : List Standing) (turns : Turns) : Type 0 where
  pub depths : turns.depths ≡ depths_of graph.manifest.pools
  pub fits : length turns.running ≡ length turns.depths
  pub groups : (e : ℕ) → is_outside (standing_at standings e) ≡ false → group_at turns e ≡ place_in graph.manifest.pools (pool_of (get_or graph.manifest.actions e no_action))

-- so is each edge, in the cone or not
abbrev pub AreAllPooled : Graph → Turns → Type 0
AreAllPooled graph turns = (e : ℕ) → group_at turns e ≡ place_in graph.manifest.pools (pool_of (get_or graph.manifest.actions e no_action))

-- ---- what is said next, and what a call changes

-- where an edge stands by a verdict over it
abbrev pub standing_by : Verdict → Standing
standing_by verdict.Clean = Clean
standing_by verdict.OutOfDate = OutOfDate

-- where an edge stands after its command ended, well or not
abbrev pub standing_after : Bool → Standing
standing_after true = Well
standing_after false = Failed

-- fewer commands run than may, and fewer have failed; 0 is no limit
abbrev pub has_limits : ℕ → ℕ → ℕ → ℕ → Bool
has_limits jobs keep running failed = ((jobs == 0) || nat_lt running jobs) && ((keep == 0) || nat_lt failed keep)

-- the edge stands so; no other changes, but aliases are settled
pub record IsSettling (old new : List Standing) (edge : ℕ) (standing : Standing) : Type 0 where
  pub fits : length new ≡ length old
  pub here : standing_at new edge ≡ standing
  pub others : (e : ℕ) → e ≢ edge → StaysOrSettles (standing_at old e) (standing_at new e)
