use Rattle.std.proofs.Common.{take}
use Rattle.plan.specs.Seats.{AreEmpty}
use Rattle.plan.proofs.queue.empty_pools.Given as goal

abbrev pub invariant-loop-depth : goal.invariant-loop-depth
invariant-loop-depth l = AreEmpty (take l.depth-index l.depths) l.pools.items
