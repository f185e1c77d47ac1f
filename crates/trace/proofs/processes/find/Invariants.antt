use Rattle.std.proofs.Common.{◌≡◌, drop}
use Rattle.trace.specs.Processes.{known_of}
use Rattle.trace.proofs.processes.find.Given as goal

abbrev pub invariant-loop-known : goal.invariant-loop-known
invariant-loop-known l = known_of l.number l.processes ≡ known_of l.number (drop l.known-index l.processes)
