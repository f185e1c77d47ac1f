use Rattle.seen_drive.proofs.Law.{clean_law}
use Rattle.seen_drive.proofs.laws.moves_are_clean.Goals as goal

pub returns : goal.returns
returns c = clean_law c.seen_builds_are_clean.ensures
