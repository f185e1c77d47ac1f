use Rattle.std.proofs.Common.{◌≡◌, ◌++◌, take, drop}
use Rattle.trace.specs.Processes.{without}
use Rattle.trace.proofs.processes.place_of.Given as goal

abbrev pub invariant-loop-place : goal.invariant-loop-place
invariant-loop-place l = without l.number l.processes ≡ take l.place l.processes ++ without l.number (drop l.place l.processes)
