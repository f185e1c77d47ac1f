use Rattle.seen_true.proofs.Noting.{lines_note_law}
use Rattle.seen_true.proofs.lines_note.Goals as goal

pub returns : goal.returns
returns c = lines_note_law
