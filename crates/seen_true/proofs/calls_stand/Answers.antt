use Rattle.seen_true.proofs.Noting.{calls_stand_law}
use Rattle.seen_true.proofs.calls_stand.Goals as goal

pub returns : goal.returns
returns c = calls_stand_law
