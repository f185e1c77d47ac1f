use Rattle.seen_true.proofs.Keeping.{line_law}
use Rattle.seen_true.proofs.line_keeps_notes.Goals as goal

pub returns : goal.returns
returns c = line_law
