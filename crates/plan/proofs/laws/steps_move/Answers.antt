use Rattle.plan.proofs.StepLaws.{steps_move_law}
use Rattle.plan.proofs.laws.steps_move.Goals as goal

pub returns : goal.returns
returns c = steps_move_law
