use Rattle.std.proofs.Common.{◌++◌, List, ℕ, ap, ◌∙◌, decimal}
use Rattle.log_text.specs.Line.{field_and_tab}
use Rattle.seen_log.proofs.record.numbers_in.Goals as goal

pub returns-clause-found : goal.returns-clause-found
returns-clause-found c =
    c.in_ok-stamp.ensures.number
    ∙ ap (λ (l : List ℕ). field_and_tab (decimal c.in_ok-stamp.stamp) ++ l) (c.in_ok-size.ensures.number ∙ ap (λ (l : List ℕ). field_and_tab (decimal c.in_ok-size.size) ++ l) c.in_ok-number.ensures.number)
