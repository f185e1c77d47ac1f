use Rattle.seen_true.proofs.Noting.{absence_law}
use Rattle.seen_true.proofs.absence_notes.Goals as goal

pub returns : goal.returns
returns c = absence_law
