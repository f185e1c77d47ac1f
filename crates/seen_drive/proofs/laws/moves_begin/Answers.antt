use Rattle.seen_drive.proofs.Law.{begin_law}
use Rattle.seen_drive.proofs.laws.moves_begin.Goals as goal

pub returns : goal.returns
returns c = begin_law c.seen_builds_are_clean.ensures c.fresh_is_met.ensures
