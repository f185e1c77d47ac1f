use Rattle.plan.proofs.Staying.{may_go_on_by}
use Rattle.plan.proofs.laws.loads_go_on_by.Goals as goal

pub returns : goal.returns
returns c = may_go_on_by
