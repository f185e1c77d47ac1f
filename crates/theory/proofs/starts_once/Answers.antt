use Rattle.theory.proofs.RunLawsStated as law
use Rattle.theory.proofs.starts_once.Goals as goal

pub returns : goal.returns
returns c = law.starts_once
