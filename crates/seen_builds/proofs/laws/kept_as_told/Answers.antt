use Rattle.seen_builds.proofs.Keeping.{kept_as_told_law}
use Rattle.seen_builds.proofs.laws.kept_as_told.Goals as goal

pub returns : goal.returns
returns c = kept_as_told_law c.kept_is_told.ensures
