use Rattle.theory.proofs.RunLawsStated as law
use Rattle.theory.proofs.running_is_as_told.Goals as goal

pub returns : goal.returns
returns c = law.running_is_as_told
