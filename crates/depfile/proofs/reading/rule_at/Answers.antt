use Rattle.depfile.proofs.Once.{adds_rule}
use Rattle.depfile.proofs.reading.rule_at.Goals as goal

pub returns-in-Ok-Rule-clause-adds : goal.returns-in-Ok-Rule-clause-adds
returns-in-Ok-Rule-clause-adds c all kept = adds_rule c.args.text.now c.in-Ok-Rule.rest.now c.args.paths.now.keys (rw c.in-Ok-Rule.field-0-is at c.in-Ok-Rule.ensures.behind) all kept
