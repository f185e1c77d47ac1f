use Rattle.plan.proofs.StepLaws.{standings_tell_law}
use Rattle.plan.proofs.laws.standings_tell.Goals as goal

pub returns : goal.returns
returns c = standings_tell_law
