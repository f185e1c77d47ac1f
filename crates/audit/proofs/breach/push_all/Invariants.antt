use Rattle.std.proofs.Common.{◌≡◌, ◌++◌, drop}
use Rattle.audit.specs.Breaches.{all_at}
use Rattle.audit.proofs.breach.push_all.Given as goal

abbrev pub invariant-loop-finding : goal.invariant-loop-finding
invariant-loop-finding l = l.initial.found ++ all_at l.place l.findings ≡ l.found ++ all_at l.place (drop l.finding-index l.findings)
