use Rattle.seen_true.proofs.Keeping.{entry_law}
use Rattle.seen_true.proofs.entry_is_true.Goals as goal

pub returns : goal.returns
returns c = entry_law
