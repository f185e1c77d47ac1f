use Rattle.seen.proofs.Faith.{number_is_later_law}
use Rattle.seen.proofs.laws.number_is_later.Goals as goal

pub returns : goal.returns
returns c = number_is_later_law
