use Rattle.seen_law.proofs.Going.{writes_law}
use Rattle.seen_law.proofs.writes_are_told.Goals as goal

pub returns : goal.returns
returns c = writes_law
