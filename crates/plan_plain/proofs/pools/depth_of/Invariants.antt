use Rattle.std.proofs.Common.{◌≡◌, drop}
use Rattle.model.specs.Graph.{declared_depth}
use Rattle.plan_plain.proofs.pools.depth_of.Given as goal

abbrev pub invariant-loop-pool : goal.invariant-loop-pool
invariant-loop-pool l = declared_depth (drop l.pool-index l.pools) l.name ≡ declared_depth l.pools l.name
