use Rattle.std.proofs.Common.{ℕ, List, refl, rules, ap}
use Rattle.lexer.specs.Grammar.Outcome.{Reached}
use Rattle.lexer.specs.Grammar.Then.{goes_on}
use Rattle.lexer.specs.Places.{Breaks}
use Rattle.lexer.specs.Lines.{Nothing}
use Rattle.lexer.proofs.Reading.{breaks_first, breaks_next}
use Rattle.lexer.proofs.lines.skip_comment.Goals as goal

pub returns-in_err-next-clause-fault : goal.returns-in_err-next-clause-fault
returns-in_err-next-clause-fault c =
    let stops : Breaks Nothing c.args.start c.in_err-next.field-0.0 =
    breaks_next _ _ tt _ _ _ (ap (λ (rest : List ℕ). Reached tt rest) c.split_run.ensures.rest) c.split_run.ensures.behind (
    breaks_first _ _ _ _ c.in_err-next.ensures.fault) in
    search (rules, stops)

pub returns-clause-reads : goal.returns-clause-reads
returns-clause-reads c =
    goes_on {value = tt} (ap (λ (rest : List ℕ). Reached tt rest) c.split_run.ensures.rest) (
    goes_on {value = tt} c.in_ok-next.ensures.reads refl)
