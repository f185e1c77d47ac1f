use Rattle.theory.proofs.LogLawsStated as law
use Rattle.theory.proofs.clean_from_faithful.Goals as goal

pub returns : goal.returns
returns c = law.clean_from_faithful
