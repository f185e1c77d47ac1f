use Rattle.seen_true.proofs.Keeping.{moments_law}
use Rattle.seen_true.proofs.moments_keep_notes.Goals as goal

pub returns : goal.returns
returns c = moments_law
