use Rattle.seen_true.proofs.Noting.{note_calls_note_law}
use Rattle.seen_true.proofs.note_calls_note.Goals as goal

pub returns : goal.returns
returns c = note_calls_note_law c.front_of_lines.ensures
