use Rattle.seen_true.proofs.Noting.{stay_law}
use Rattle.seen_true.proofs.enters_stay.Goals as goal

pub returns : goal.returns
returns c = stay_law
