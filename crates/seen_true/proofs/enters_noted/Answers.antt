use Rattle.seen_true.proofs.Noting.{enters_law}
use Rattle.seen_true.proofs.enters_noted.Goals as goal

pub returns : goal.returns
returns c = enters_law
