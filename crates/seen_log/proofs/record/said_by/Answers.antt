use Rattle.seen_log.proofs.Fields.{parts_of, numbers_of, low_numbers}
use Rattle.seen_log.proofs.record.said_by.Goals as goal

pub returns-in-None-clause-none : goal.returns-in-None-clause-none
returns-in-None-clause-none c = λ other low e.
    let parts = parts_of c.args.fields.now c.in_ok-kind.kind.now c.in_ok-kind.rest.now c.in_ok-path.path.now c.in_ok-path.after.now c.in_ok-kind.ensures.cases.0 c.in_ok-path.ensures.cases.0 other e in
    c.in-None.ensures.none (numbers_of other.noted) (low_numbers other.noted low) parts.2
