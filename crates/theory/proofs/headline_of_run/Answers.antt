use Rattle.theory.proofs.Headlines as law
use Rattle.theory.proofs.headline_of_run.Goals as goal

pub returns : goal.returns
returns c = law.headline_of_run
