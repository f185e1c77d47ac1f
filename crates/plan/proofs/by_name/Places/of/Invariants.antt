use Rattle.std.proofs.Common.{◌≡◌, ◌+◌, ◌++◌, ℕ, List, Option, None, Some, drop, length}
use Rattle.plan.specs.Places.{place_by}
use Rattle.plan.specs.Pools.{limited}
use Rattle.plan.proofs.by_name.Places.of.Given as goal

-- the place, behind so many others
abbrev pub shifted : ℕ → Option ℕ → Option ℕ
shifted n None = None
shifted n (Some k) = Some (n + k)

abbrev pub invariant-loop-pool : goal.invariant-loop-pool
invariant-loop-pool l = record {
  whole : l.pools ≡ l.rest ++ drop (length l.rest) l.pools;
  each : (name : List ℕ) → place_by l.places name ≡ shifted (length l.rest) (limited (drop (length l.rest) l.pools) name);
}

abbrev pub decreases-loop-pool : goal.decreases-loop-pool
decreases-loop-pool l = length l.rest
