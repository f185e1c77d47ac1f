use Rattle.seen_true.proofs.Truth.{told_law}
use Rattle.seen_true.proofs.told_is_true.Goals as goal

pub returns : goal.returns
returns c = told_law
