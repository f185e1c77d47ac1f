use Rattle.std.proofs.Common.{refl}
use Rattle.graph.specs.Told.{recorded_by}
use Rattle.plan_checks.proofs.graphs.cone_of.Goals as goal

pub returns-in-Ok-clause-within : goal.returns-in-Ok-clause-within
returns-in-Ok-clause-within c = (c.in-Ok.ensures.cone (recorded_by c.args.graph.now) (λ i p. refl)).within
