use Rattle.seen_true.proofs.Sound.{rightly_law}
use Rattle.seen_true.proofs.rightly_is_soundly.Goals as goal

pub returns : goal.returns
returns c = rightly_law
