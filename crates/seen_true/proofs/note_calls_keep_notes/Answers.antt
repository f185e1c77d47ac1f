use Rattle.seen_true.proofs.Calling.{note_calls_law}
use Rattle.seen_true.proofs.note_calls_keep_notes.Goals as goal

pub returns : goal.returns
returns c = note_calls_law c.front_of_lines.ensures
