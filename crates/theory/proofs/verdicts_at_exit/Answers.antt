use Rattle.theory.proofs.JudgedAtExit as law
use Rattle.theory.proofs.verdicts_at_exit.Goals as goal

pub returns : goal.returns
returns c = law.verdicts_at_exit
