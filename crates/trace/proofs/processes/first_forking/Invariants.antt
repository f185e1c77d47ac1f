use Rattle.std.proofs.Common.{◌≡◌, drop}
use Rattle.trace.specs.Processes.{first_forking}
use Rattle.trace.proofs.processes.first_forking.Given as goal

abbrev pub invariant-loop-known : goal.invariant-loop-known
invariant-loop-known l = first_forking l.processes ≡ first_forking (drop l.known-index l.processes)
