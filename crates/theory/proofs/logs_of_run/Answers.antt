use Rattle.theory.proofs.Headlines as law
use Rattle.theory.proofs.logs_of_run.Goals as goal

pub returns : goal.returns
returns c = law.logs_of_run
