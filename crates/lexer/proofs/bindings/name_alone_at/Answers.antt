use Rattle.std.proofs.Common.{refl, rules}
use Rattle.lexer.specs.Grammar.Then.{goes_on}
use Rattle.lexer.specs.Places.{Breaks}
use Rattle.lexer.specs.Statements.{NameAlone}
use Rattle.lexer.proofs.Places.{behind_both}
use Rattle.lexer.proofs.Reading.{breaks_first, breaks_next}
use Rattle.lexer.proofs.bindings.name_alone_at.Goals as goal

pub returns-in_err-name-clause-fault : goal.returns-in_err-name-clause-fault
returns-in_err-name-clause-fault c =
    let stops : Breaks NameAlone c.args.cursor c.in_err-name.field-0.0 =
    breaks_next _ _ tt _ _ _ c.skip_blanks-start.ensures.blanks c.skip_blanks-start.ensures.behind (
    breaks_first _ _ _ _ c.in_err-name.ensures.fault) in
    search (rules, stops)

pub returns-in_err-next-clause-fault : goal.returns-in_err-next-clause-fault
returns-in_err-next-clause-fault c =
    let stops : Breaks NameAlone c.args.cursor c.in_err-next.field-0.0 =
    breaks_next _ _ tt _ _ _ c.skip_blanks-start.ensures.blanks c.skip_blanks-start.ensures.behind (
    breaks_next _ _ c.in_ok-name.name.now _ _ _ c.in_ok-name.ensures.reads c.in_ok-name.ensures.behind (
    breaks_first _ _ _ _ c.in_err-next.ensures.fault)) in
    search (rules, stops)

pub returns-clause-reads : goal.returns-clause-reads
returns-clause-reads c =
    goes_on {value = tt} c.skip_blanks-start.ensures.blanks (
    goes_on {value = c.in_ok-name.name.now} c.in_ok-name.ensures.reads (
    goes_on {value = tt} c.in_ok-next.ensures.reads (
    refl)))

pub returns-clause-behind : goal.returns-clause-behind
returns-clause-behind c =
    behind_both _ _ _ c.skip_blanks-start.ensures.behind (
    behind_both _ _ _ c.in_ok-name.ensures.behind c.in_ok-next.ensures.behind)
