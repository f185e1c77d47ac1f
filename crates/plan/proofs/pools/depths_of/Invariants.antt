use Rattle.std.proofs.Common.{◌≡◌, map, take}
use Rattle.model.specs.declared.graph.Pool.{Pool}
use Rattle.plan.proofs.pools.depths_of.Given as goal

abbrev pub invariant-loop-pool : goal.invariant-loop-pool
invariant-loop-pool l = l.depths.items ≡ map (λ (pool : Pool). pool.depth) (take l.pool-index l.pools)
