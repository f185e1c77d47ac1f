use Rattle.seen_true.proofs.SmallOne.{away_law}
use Rattle.seen_true.proofs.put_back_is_not_sound.Goals as goal

pub returns : goal.returns
returns c = away_law
