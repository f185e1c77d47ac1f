use Rattle.std.proofs.Common.{◌≡◌, ◌++◌, drop}
use Rattle.audit.specs.Seen.{sums_in}
use Rattle.audit.specs.Breaches.{breaches, breaches_from}
use Rattle.audit.proofs.breach.breaches.Given as goal

abbrev pub invariant-loop-place : goal.invariant-loop-place
invariant-loop-place l =
    breaches l.lists l.arounds (sums_in l.uses)
    ≡ l.found ++ breaches_from l.lists l.place (drop l.place (sums_in l.uses).paths) (drop l.place l.arounds) (drop l.place (sums_in l.uses).uses)
