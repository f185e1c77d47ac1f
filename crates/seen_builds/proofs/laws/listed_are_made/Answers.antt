use Rattle.seen_builds.proofs.Made.{listed_law}
use Rattle.seen_builds.proofs.laws.listed_are_made.Goals as goal

pub returns : goal.returns
returns c = listed_law
