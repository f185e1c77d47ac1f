use Rattle.std.proofs.Common.{◌≡◌}
use Rattle.audit.specs.Leading.{lead, lead_in}
use Rattle.audit.proofs.lead.lead.Given as goal

abbrev pub invariant-links : goal.invariant-links
invariant-links l = lead l.links.own.now l.links.old.now l.asks l.name ≡ lead_in l.left l.links.own.now l.links.old.now l.asks l.met l.way l.text

abbrev pub decreases-links : goal.decreases-links
decreases-links l = l.left
