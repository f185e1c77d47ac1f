use Rattle.theory.proofs.NothingLeft as left
use Rattle.theory.proofs.nothing_is_left.Goals as goal

pub returns : goal.returns
returns c = left.nothing_is_left
