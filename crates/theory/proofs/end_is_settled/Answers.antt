use Rattle.theory.proofs.RunLawsStated as law
use Rattle.theory.proofs.end_is_settled.Goals as goal

pub returns : goal.returns
returns c = law.end_is_settled
