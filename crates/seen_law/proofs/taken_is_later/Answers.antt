use Rattle.seen_law.proofs.Going.{taken_law}
use Rattle.seen_law.proofs.taken_is_later.Goals as goal

pub returns : goal.returns
returns c = taken_law
