use Rattle.theory.proofs.Over as law
use Rattle.theory.proofs.histories_grow.Goals as goal

pub returns : goal.returns
returns c = law.histories_grow
