use Rattle.std.proofs.Common.{◌≡◌, length}
use Rattle.audit.specs.Leading.{has}
use Rattle.audit.proofs.lead.has.Given as goal

abbrev pub invariant-places : goal.invariant-places
invariant-places l = has l.mark l.text ≡ has l.mark l.rest

abbrev pub decreases-places : goal.decreases-places
decreases-places l = length l.rest
