use Rattle.stand_in.proofs.Claimed as law
use Rattle.stand_in.proofs.laws.runs_are_as_claimed.Goals as goal

pub returns : goal.returns
returns c = law.runs_are_as_claimed
