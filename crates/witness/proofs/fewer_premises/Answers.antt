use Rattle.witness.proofs.Fewer.{fewer_premises}
use Rattle.witness.proofs.fewer_premises.Goals as goal

pub returns : goal.returns
returns c = fewer_premises
