use Rattle.seen_true.proofs.KilledOne.{killed_law}
use Rattle.seen_true.proofs.killed_is_met.Goals as goal

pub returns : goal.returns
returns c = killed_law
