use Rattle.std.proofs.Common.{◌≡◌, drop}
use Rattle.trace.specs.Processes.{is_listed}
use Rattle.trace.proofs.processes.is_listed.Given as goal

abbrev pub invariant-loop-other : goal.invariant-loop-other
invariant-loop-other l = is_listed l.number l.numbers ≡ is_listed l.number (drop l.other-index l.numbers)
