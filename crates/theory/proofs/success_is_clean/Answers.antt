use Rattle.theory.proofs.RunLawsStated as law
use Rattle.theory.proofs.success_is_clean.Goals as goal

pub returns : goal.returns
returns c = law.success_is_clean
