use Rattle.std.proofs.Common.{◌≡◌}
use Rattle.model.specs.World.{latest}
use Rattle.sim.specs.History.{with_writes, IsLonger}
use Rattle.sim.proofs.history.append_writes.Given as goal

abbrev pub invariant-loop-write : goal.invariant-loop-write
invariant-loop-write l = record {
  written : l.moments ≡ with_writes l.job l.yielded l.initial.moments;
  longer : IsLonger l.initial.moments l.moments;
  clocked : l.clock ≡ latest l.moments;
}
