use Rattle.seen_true.proofs.Ending.{ending_law}
use Rattle.seen_true.proofs.notes_tell_truly.Goals as goal

pub returns : goal.returns
returns c = ending_law c.files_are_told.ensures c.one_reading.ensures
