use Rattle.witness.proofs.Stricter.{left_by_both}
use Rattle.witness.proofs.logs_are_left.Goals as goal

pub returns : goal.returns
returns c = left_by_both
