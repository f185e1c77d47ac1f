use Rattle.work.proofs.Stopping.{source_next}
use Rattle.work.proofs.laws.sources_load.Goals as goal

pub returns : goal.returns
returns c = source_next
