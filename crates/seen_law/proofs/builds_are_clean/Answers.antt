use Rattle.seen_law.proofs.Following.{builds_law}
use Rattle.seen_law.proofs.builds_are_clean.Goals as goal

pub returns : goal.returns
returns c = builds_law
