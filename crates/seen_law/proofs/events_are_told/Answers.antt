use Rattle.seen_law.proofs.Going.{events_law}
use Rattle.seen_law.proofs.events_are_told.Goals as goal

pub returns : goal.returns
returns c = events_law
