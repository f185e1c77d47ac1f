use Rattle.theory.proofs.Recorded as recorded
use Rattle.theory.proofs.records_are_kept.Goals as goal

pub returns : goal.returns
returns c = recorded.records_are_kept
