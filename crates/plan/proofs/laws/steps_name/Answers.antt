use Rattle.plan.proofs.StepLaws.{steps_name_law}
use Rattle.plan.proofs.laws.steps_name.Goals as goal

pub returns : goal.returns
returns c = steps_name_law
