use Rattle.std.proofs.Common.{◌≡◌, take, length}
use Rattle.sim.proofs.moments.Moments.truncate.Given as goal

abbrev pub invariant-loop-self : goal.invariant-loop-self
invariant-loop-self l = take l.length l.self ≡ take l.length l.initial.self

abbrev pub decreases-loop-self : goal.decreases-loop-self
decreases-loop-self l = length l.self
