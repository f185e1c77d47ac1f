use Rattle.seen_log.proofs.Digits.{number_field, decimal_utf8}
use Rattle.seen_log.proofs.number.number_in.Goals as goal

pub returns-clause-number : goal.returns-clause-number
returns-clause-number c = number_field c.args.bytes.now c.in_ok-number.rest.now c.in_ok-after.after.now c.in_ok-number.number c.in_ok-number.ensures.low c.in_ok-number.ensures.digits c.in_ok-after.ensures

pub returns-clause-utf8 : goal.returns-clause-utf8
returns-clause-utf8 c = decimal_utf8 c.in_ok-number.number c.in_ok-number.ensures.low
