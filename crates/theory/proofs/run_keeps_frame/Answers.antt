use Rattle.theory.proofs.RunLawsStated as law
use Rattle.theory.proofs.run_keeps_frame.Goals as goal

pub returns : goal.returns
returns c = law.run_keeps_frame
