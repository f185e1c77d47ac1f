use Rattle.theory.proofs.LogLawsStated as law
use Rattle.theory.proofs.clean_with_loads.Goals as goal

pub returns : goal.returns
returns c = law.clean_with_loads
