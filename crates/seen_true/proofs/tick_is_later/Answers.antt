use Rattle.seen_true.proofs.Truth.{tick_law}
use Rattle.seen_true.proofs.tick_is_later.Goals as goal

pub returns : goal.returns
returns c = tick_law
