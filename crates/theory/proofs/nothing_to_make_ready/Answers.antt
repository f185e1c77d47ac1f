use Rattle.theory.proofs.RunLawsStated as law
use Rattle.theory.proofs.nothing_to_make_ready.Goals as goal

pub returns : goal.returns
returns c = law.nothing_to_make_ready
