use Rattle.seen_law.proofs.Going.{looks_law}
use Rattle.seen_law.proofs.looks_are_told.Goals as goal

pub returns : goal.returns
returns c = looks_law
