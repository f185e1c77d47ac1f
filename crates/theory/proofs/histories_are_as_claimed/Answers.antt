use Rattle.theory.proofs.Over as law
use Rattle.theory.proofs.histories_are_as_claimed.Goals as goal

pub returns : goal.returns
returns c = law.histories_are_as_claimed
