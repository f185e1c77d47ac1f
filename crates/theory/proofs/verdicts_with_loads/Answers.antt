use Rattle.theory.proofs.Turned as law
use Rattle.theory.proofs.verdicts_with_loads.Goals as goal

pub returns : goal.returns
returns c = law.verdicts_with_loads
