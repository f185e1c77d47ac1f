use Rattle.witness.proofs.Visits.{history_met}
use Rattle.witness.proofs.history_met.Goals as goal

pub returns : goal.returns
returns c = history_met c.one_answer.ensures
