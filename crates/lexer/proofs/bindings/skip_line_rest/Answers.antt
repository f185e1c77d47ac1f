use Rattle.std.proofs.Common.{rules}
use Rattle.lexer.specs.Grammar.Then.{goes_on}
use Rattle.lexer.specs.Places.{Breaks}
use Rattle.lexer.specs.Statements.{LineRest}
use Rattle.lexer.proofs.Places.{behind_both}
use Rattle.lexer.proofs.Reading.{breaks_next}
use Rattle.lexer.proofs.bindings.skip_line_rest.Goals as goal

pub returns-in_err-next-clause-fault : goal.returns-in_err-next-clause-fault
returns-in_err-next-clause-fault c =
    let stops : Breaks LineRest c.args.cursor c.in_err-next.field-0.0 =
    breaks_next _ _ tt _ _ _ c.skip_blanks-end.ensures.blanks c.skip_blanks-end.ensures.behind (
    c.in_err-next.ensures.fault) in
    search (rules, stops)

pub returns-clause-reads : goal.returns-clause-reads
returns-clause-reads c =
    goes_on {value = tt} c.skip_blanks-end.ensures.blanks (
    c.in_ok-next.ensures.reads)

pub returns-clause-behind : goal.returns-clause-behind
returns-clause-behind c =
    behind_both _ _ _ c.skip_blanks-end.ensures.behind c.in_ok-next.ensures.behind
