use Rattle.plan.proofs.Starting.{well_count}
use Rattle.plan.proofs.plan.Plan.well.Goals as goal

pub returns-clause-steps : goal.returns-clause-steps
returns-clause-steps c = λ task graph steps at lawful. well_count task graph c.args.self.now steps at lawful
