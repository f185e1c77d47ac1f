use Rattle.theory.proofs.RunLawsStated as law
use Rattle.theory.proofs.nothing_is_up_to_date.Goals as goal

pub returns : goal.returns
returns c = law.nothing_is_up_to_date
