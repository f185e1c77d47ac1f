use Rattle.seen_law.proofs.Going.{answers_law}
use Rattle.seen_law.proofs.answers_are_told.Goals as goal

pub returns : goal.returns
returns c = answers_law
