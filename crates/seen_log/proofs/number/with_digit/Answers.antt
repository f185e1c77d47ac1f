use Rattle.std.proofs.Common.{◌≡◌, ◌+◌, ◌*◌, ◌∙◌, ap, decimal, arith}
use Rattle.seen_log.proofs.Digits.{digit_behind}
use Rattle.seen_log.proofs.number.with_digit.Goals as goal

pub returns-clause-digits : goal.returns-clause-digits
returns-clause-digits c =
    let is : c.in_ok-more.more ≡ c.args.number * 10 + c.args.digit = omega arith in
    ap decimal is ∙ digit_behind c.args.number c.args.digit c.requires.some c.requires.low (omega arith)
