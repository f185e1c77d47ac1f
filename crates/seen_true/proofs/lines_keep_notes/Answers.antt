use Rattle.seen_true.proofs.Keeping.{lines_law}
use Rattle.seen_true.proofs.lines_keep_notes.Goals as goal

pub returns : goal.returns
returns c = lines_law c.front_of_lines.ensures
