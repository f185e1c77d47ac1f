use Rattle.witness.proofs.Mended.{rich_history_met}
use Rattle.witness.proofs.rich_history_met.Goals as goal

pub returns : goal.returns
returns c = rich_history_met
