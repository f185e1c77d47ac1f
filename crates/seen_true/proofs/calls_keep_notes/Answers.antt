use Rattle.seen_true.proofs.Calling.{calls_law}
use Rattle.seen_true.proofs.calls_keep_notes.Goals as goal

pub returns : goal.returns
returns c = calls_law
