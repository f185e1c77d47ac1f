use Rattle.std.proofs.Common.{length}
use Rattle.dyndep.specs.Refused.{forms_in}
use Rattle.dyndep.proofs.Additions.{AddsSoFar}
use Rattle.dyndep.proofs.statements.additions_of.Given as goal

abbrev pub invariant-statements : goal.invariant-statements
invariant-statements l = AddsSoFar (forms_in l.lines) (forms_in l.left) l.additions

abbrev pub decreases-statements : goal.decreases-statements
decreases-statements l = length l.left
