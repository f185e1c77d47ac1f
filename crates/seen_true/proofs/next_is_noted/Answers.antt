use Rattle.seen_true.proofs.Noting.{next_law}
use Rattle.seen_true.proofs.next_is_noted.Goals as goal

pub returns : goal.returns
returns c = next_law c.files_are_told.ensures c.one_reading.ensures
