use Rattle.seen_true.proofs.Truth.{left_as_seen_law}
use Rattle.seen_true.proofs.seen_is_left.Goals as goal

pub returns : goal.returns
returns c = left_as_seen_law
