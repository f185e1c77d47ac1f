use Rattle.seen.proofs.Faith.{counts_either_law}
use Rattle.seen.proofs.laws.counts_either.Goals as goal

pub returns : goal.returns
returns c = counts_either_law
