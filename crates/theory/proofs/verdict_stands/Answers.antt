use Rattle.theory.proofs.Carried as carried
use Rattle.theory.proofs.verdict_stands.Goals as goal

pub returns : goal.returns
returns c = carried.verdict_stands
