use Rattle.plan.proofs.Grown.{may_go_on}
use Rattle.plan.proofs.laws.loads_go_on.Goals as goal

pub returns : goal.returns
returns c = may_go_on
