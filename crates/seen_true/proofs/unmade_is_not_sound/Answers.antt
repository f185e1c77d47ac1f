use Rattle.seen_true.proofs.SmallOne.{unmade_law}
use Rattle.seen_true.proofs.unmade_is_not_sound.Goals as goal

pub returns : goal.returns
returns c = unmade_law
