use Rattle.theory.proofs.LogLawsStated as law
use Rattle.theory.proofs.faithful_at_exit.Goals as goal

pub returns : goal.returns
returns c = law.faithful_at_exit
