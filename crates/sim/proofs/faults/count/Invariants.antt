use Rattle.std.proofs.Common.{◌≡◌}
use Rattle.sim.specs.Faults.{after_call}
use Rattle.sim.proofs.Counts.{changed}
use Rattle.sim.proofs.faults.count.Given as goal

abbrev pub invariant-loop-at : goal.invariant-loop-at
invariant-loop-at l = l.named.items ≡ changed (after_call l.call) l.at l.initial.named.items
