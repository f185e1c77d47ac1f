use Rattle.seen_true.proofs.Noting.{found_law}
use Rattle.seen_true.proofs.found_in_call.Goals as goal

pub returns : goal.returns
returns c = found_law
