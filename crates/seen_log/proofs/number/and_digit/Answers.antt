use Rattle.std.proofs.Common.{◌≡◌, ◌+◌, ◌*◌, ◌∙◌, ◌++◌, ◌∷◌, [], ap, decimal, ℕ, arith}
use Rattle.seen_log.proofs.Digits.{digit_behind}
use Rattle.seen_log.proofs.number.and_digit.Goals as goal

pub returns-clause-digits : goal.returns-clause-digits
returns-clause-digits c =
    let digit = c.from.result in
    let same : 48 + digit ≡ c.args.digit = omega (arith, c.requires.digit.0, c.from.ensures) in
    digit_behind c.args.number digit c.requires.some (omega (arith, c.requires.digit.0, c.requires.digit.1, c.from.ensures)) (omega (arith, c.requires.digit.0, c.requires.digit.1, c.from.ensures)) ∙ ap (λ (b : ℕ). decimal c.args.number ++ b ∷ []) same
