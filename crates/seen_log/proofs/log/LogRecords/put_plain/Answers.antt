use Rattle.seen_log.specs.Record.{noting}
use Rattle.seen_log.proofs.log.LogRecords.put_plain.Goals as goal

pub returns-clause-put : goal.returns-clause-put
returns-clause-put c = λ yes. (noting c.in-Some.path.now c.in-Some.noted, c.in-Some.ensures.0, c.in-Some.ensures.1 c.args._version, c.in_ok-note.ensures.ok)
