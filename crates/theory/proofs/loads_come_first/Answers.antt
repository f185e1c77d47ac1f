use Rattle.theory.proofs.RunLawsStated as law
use Rattle.theory.proofs.loads_come_first.Goals as goal

pub returns : goal.returns
returns c = law.loads_come_first
