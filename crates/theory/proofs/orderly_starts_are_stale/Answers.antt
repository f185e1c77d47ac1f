use Rattle.theory.proofs.RunLawsStated as law
use Rattle.theory.proofs.orderly_starts_are_stale.Goals as goal

pub returns : goal.returns
returns c = law.orderly_starts_are_stale
