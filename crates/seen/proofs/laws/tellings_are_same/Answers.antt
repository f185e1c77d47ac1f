use Rattle.seen.proofs.Kept.{tellings_law}
use Rattle.seen.proofs.laws.tellings_are_same.Goals as goal

pub returns : goal.returns
returns c = tellings_law
