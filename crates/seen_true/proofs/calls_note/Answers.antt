use Rattle.seen_true.proofs.Noting.{calls_note_law}
use Rattle.seen_true.proofs.calls_note.Goals as goal

pub returns : goal.returns
returns c = calls_note_law
