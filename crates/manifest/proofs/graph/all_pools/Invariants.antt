use Rattle.std.proofs.Common.{◌≡◌, ◌++◌, map}
use Rattle.manifest.specs.Held.{pool_of}
use Rattle.manifest.proofs.graph.all_pools.Given as goal

abbrev pub invariant-loop-name : goal.invariant-loop-name
invariant-loop-name l = l.pools ++ map pool_of l.name-iterator ≡ map pool_of l.kept.entries
