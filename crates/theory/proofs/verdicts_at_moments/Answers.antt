use Rattle.theory.proofs.AtMoments as law
use Rattle.theory.proofs.verdicts_at_moments.Goals as goal

pub returns : goal.returns
returns c = law.verdicts_at_moments
