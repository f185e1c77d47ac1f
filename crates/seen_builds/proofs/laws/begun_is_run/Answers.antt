use Rattle.seen_builds.proofs.Over.{begun_law}
use Rattle.seen_builds.proofs.laws.begun_is_run.Goals as goal

pub returns : goal.returns
returns c = begun_law
