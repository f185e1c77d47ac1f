use Rattle.theory.proofs.RunLawsStated as law
use Rattle.theory.proofs.one_phase_is_lawful.Goals as goal

pub returns : goal.returns
returns c = law.one_phase_is_lawful
