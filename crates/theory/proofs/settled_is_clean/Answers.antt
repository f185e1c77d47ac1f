use Rattle.theory.proofs.RunLawsStated as law
use Rattle.theory.proofs.settled_is_clean.Goals as goal

pub returns : goal.returns
returns c = law.settled_is_clean
