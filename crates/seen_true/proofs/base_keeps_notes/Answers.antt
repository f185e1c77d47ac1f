use Rattle.seen_true.proofs.Keeping.{base_law}
use Rattle.seen_true.proofs.base_keeps_notes.Goals as goal

pub returns : goal.returns
returns c = base_law
