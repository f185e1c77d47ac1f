use Rattle.seen_true.proofs.Noting.{none_law}
use Rattle.seen_true.proofs.none_in_call.Goals as goal

pub returns : goal.returns
returns c = none_law
