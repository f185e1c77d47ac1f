use Rattle.plan.proofs.Starting.{failed_count}
use Rattle.plan.proofs.plan.Plan.failed.Goals as goal

pub returns-clause-steps : goal.returns-clause-steps
returns-clause-steps c = λ task graph steps at lawful. failed_count task graph c.args.self.now steps at lawful
