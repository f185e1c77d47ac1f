use Rattle.seen_drive.proofs.Law.{seen_law}
use Rattle.seen_drive.proofs.laws.moves_are_seen.Goals as goal

pub returns : goal.returns
returns c = seen_law c.seen_builds_are_clean.ensures c.fresh_is_met.ensures
