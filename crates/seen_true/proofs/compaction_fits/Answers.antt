use Rattle.seen_true.proofs.Keeping.{compaction_law}
use Rattle.seen_true.proofs.compaction_fits.Goals as goal

pub returns : goal.returns
returns c = compaction_law c.keeps_in_force.ensures
