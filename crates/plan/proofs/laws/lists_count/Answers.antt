use Rattle.plan.proofs.StepLaws.{lists_count_law}
use Rattle.plan.proofs.laws.lists_count.Goals as goal

pub returns : goal.returns
returns c = lists_count_law
