use Rattle.plan.proofs.Starting.{running_count}
use Rattle.plan.proofs.plan.Plan.running.Goals as goal

pub returns-clause-steps : goal.returns-clause-steps
returns-clause-steps c = λ task graph steps at lawful. running_count task graph c.args.self.now steps at lawful
