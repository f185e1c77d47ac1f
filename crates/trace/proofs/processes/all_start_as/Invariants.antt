use Rattle.std.proofs.Common.{◌≡◌, drop}
use Rattle.trace.specs.Processes.{all_start_as}
use Rattle.trace.proofs.processes.all_start_as.Given as goal

abbrev pub invariant-loop-known : goal.invariant-loop-known
invariant-loop-known l = all_start_as l.first l.processes ≡ all_start_as l.first (drop l.known-index l.processes)
