use Rattle.seen_true.proofs.Truth.{away_law}
use Rattle.seen_true.proofs.away_is_true.Goals as goal

pub returns : goal.returns
returns c = away_law
