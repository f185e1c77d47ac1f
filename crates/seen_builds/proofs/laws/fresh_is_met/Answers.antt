use Rattle.seen_builds.proofs.Empty.{fresh_law}
use Rattle.seen_builds.proofs.laws.fresh_is_met.Goals as goal

pub returns : goal.returns
returns c = fresh_law
