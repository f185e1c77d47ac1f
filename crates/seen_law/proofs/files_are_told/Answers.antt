use Rattle.seen_law.proofs.Going.{files_law}
use Rattle.seen_law.proofs.files_are_told.Goals as goal

pub returns : goal.returns
returns c = files_law
