use Rattle.std.proofs.Common.{◌≡◌, drop}
use Rattle.sim.specs.Faults.{trouble_in, trouble_from}
use Rattle.sim.proofs.faults.trouble_in.Given as goal

-- what is left to look at
abbrev pub invariant-loop-one : goal.invariant-loop-one
invariant-loop-one l = trouble_from l.call l.trouble (drop l.one-index l.named) ≡ trouble_in l.call l.named
