use Rattle.seen_true.proofs.Behind.{behind_law}
use Rattle.seen_true.proofs.behind_begins.Goals as goal

pub returns : goal.returns
returns c = behind_law c.files_are_told.ensures c.one_reading.ensures
