use Rattle.std.proofs.Common.{◌≡◌, ◌<◌, ◌-◌, ◌^◌}
use Rattle.plan.proofs.lowest.shape_for.Given as goal

abbrev pub invariant-loop-leaves : goal.invariant-loop-leaves
invariant-loop-leaves l = (l.leaves ≡ 2 ^ l.height) × (l.height < l.leaves) × (l.leaves < 2 ^ 63)

abbrev pub decreases-loop-leaves : goal.decreases-loop-leaves
decreases-loop-leaves l = l.bound - l.leaves
