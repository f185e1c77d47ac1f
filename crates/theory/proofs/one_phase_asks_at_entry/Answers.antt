use Rattle.theory.proofs.RunLawsStated as law
use Rattle.theory.proofs.one_phase_asks_at_entry.Goals as goal

pub returns : goal.returns
returns c = law.one_phase_asks_at_entry
