use Rattle.judge.proofs.Agreeing.{reason_is, stale_is}
use Rattle.judge.proofs.reason_table.judge.Goals as goal

pub returns-clause-reason : goal.returns-clause-reason
returns-clause-reason c = reason_is c.args.facts.now c.first_reason.result c.first_reason.ensures

pub returns-clause-stale : goal.returns-clause-stale
returns-clause-stale c = stale_is c.args.facts.now c.first_reason.result c.first_reason.ensures
