use Rattle.std.proofs.Common.{refl, rules}
use Rattle.lexer.specs.Grammar.Then.{goes_on}
use Rattle.lexer.specs.Places.{Breaks}
use Rattle.lexer.specs.Said.{fragments_of}
use Rattle.lexer.specs.Statements.{Bound}
use Rattle.lexer.proofs.Places.{behind_both}
use Rattle.lexer.proofs.Reading.{breaks_first, breaks_next}
use Rattle.lexer.proofs.bindings.bound_value_at.Goals as goal

pub returns-in_err-skip_one-clause-fault : goal.returns-in_err-skip_one-clause-fault
returns-in_err-skip_one-clause-fault c =
    let stops : Breaks Bound c.args.cursor c.in_err-skip_one.field-0.0 =
    breaks_next _ _ tt _ _ _ c.skip_blanks-equals.ensures.blanks c.skip_blanks-equals.ensures.behind (
    breaks_first _ _ _ _ c.in_err-skip_one.ensures.fault) in
    search (rules, stops)

pub returns-in_err-value-clause-fault : goal.returns-in_err-value-clause-fault
returns-in_err-value-clause-fault c =
    let stops : Breaks Bound c.args.cursor c.in_err-value.field-0.0 =
    breaks_next _ _ tt _ _ _ c.skip_blanks-equals.ensures.blanks c.skip_blanks-equals.ensures.behind (
    breaks_next _ _ tt _ _ _ c.in_ok-skip_one.ensures.reads c.in_ok-skip_one.ensures.behind (
    breaks_next _ _ tt _ _ _ c.skip_blanks-start.ensures.blanks c.skip_blanks-start.ensures.behind (
    breaks_first _ _ _ _ c.in_err-value.ensures.fault))) in
    search (rules, stops)

pub returns-in_err-next-clause-fault : goal.returns-in_err-next-clause-fault
returns-in_err-next-clause-fault c =
    let stops : Breaks Bound c.args.cursor c.in_err-next.field-0.0 =
    breaks_next _ _ tt _ _ _ c.skip_blanks-equals.ensures.blanks c.skip_blanks-equals.ensures.behind (
    breaks_next _ _ tt _ _ _ c.in_ok-skip_one.ensures.reads c.in_ok-skip_one.ensures.behind (
    breaks_next _ _ tt _ _ _ c.skip_blanks-start.ensures.blanks c.skip_blanks-start.ensures.behind (
    breaks_next _ _ (fragments_of c.in_ok-value.value) _ _ _ c.in_ok-value.ensures.reads c.in_ok-value.ensures.behind (
    breaks_first _ _ _ _ c.in_err-next.ensures.fault)))) in
    search (rules, stops)

pub returns-clause-reads : goal.returns-clause-reads
returns-clause-reads c =
    goes_on {value = tt} c.skip_blanks-equals.ensures.blanks (
    goes_on {value = tt} c.in_ok-skip_one.ensures.reads (
    goes_on {value = tt} c.skip_blanks-start.ensures.blanks (
    goes_on {value = fragments_of c.in_ok-value.value} c.in_ok-value.ensures.reads (
    goes_on {value = tt} c.in_ok-next.ensures.reads (
    refl)))))

pub returns-clause-behind : goal.returns-clause-behind
returns-clause-behind c =
    behind_both _ _ _ c.skip_blanks-equals.ensures.behind (
    behind_both _ _ _ c.in_ok-skip_one.ensures.behind (
    behind_both _ _ _ c.skip_blanks-start.ensures.behind (
    behind_both _ _ _ c.in_ok-value.ensures.behind c.in_ok-next.ensures.behind)))
