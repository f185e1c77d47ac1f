use Rattle.std.proofs.Common.{◌≡◌, ◌++◌, ◌∙◌, ap, decimal, ℕ, arith}
use Rattle.seen_log.proofs.Digits.{first_digit}
use Rattle.seen_log.proofs.number.decimal_in.Goals as goal

pub returns-then-first-eq0-clause-digits : goal.returns-then-first-eq0-clause-digits
returns-then-first-eq0-clause-digits c =
    let nought : c.in_ok-first.first ≡ 0 = omega arith in
    first_digit c.args.bytes.now c.in_ok-first.first c.in_ok-first.after.now c.in_ok-first.ensures.digit c.in_ok-first.ensures.low ∙ ap (λ (n : ℕ). decimal n ++ c.in_ok-first.after.now) nought

pub digits-init : goal.digits-init
digits-init c = record {
  read = first_digit c.args.bytes.now c.in_ok-first.first c.in_ok-first.after.now c.in_ok-first.ensures.digit c.in_ok-first.ensures.low ∙ c.eights_in-more.ensures.digits;
  some = c.eights_in-more.ensures.some;
  low = c.eights_in-more.ensures.low;
}
