use Rattle.std.proofs.Common.{◌≡◌, ◌++◌, drop}
use Rattle.audit.specs.Below.{below}
use Rattle.audit.proofs.below.below.Given as goal

abbrev pub invariant-loop-place : goal.invariant-loop-place
invariant-loop-place l = below l.from l.to l.paths ≡ l.found ++ below l.from l.to (drop l.place l.paths)
