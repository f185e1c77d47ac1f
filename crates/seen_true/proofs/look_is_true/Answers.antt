use Rattle.seen_true.proofs.Truth.{look_law}
use Rattle.seen_true.proofs.look_is_true.Goals as goal

pub returns : goal.returns
returns c = look_law
