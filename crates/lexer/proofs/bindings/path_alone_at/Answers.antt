use Rattle.std.proofs.Common.{refl, rules}
use Rattle.lexer.specs.Grammar.Then.{goes_on}
use Rattle.lexer.specs.Places.{Breaks}
use Rattle.lexer.specs.Said.{fragments_of}
use Rattle.lexer.specs.Statements.{PathAlone}
use Rattle.lexer.proofs.Places.{behind_both, behind_none}
use Rattle.lexer.proofs.Reading.{breaks_first, breaks_next}
use Rattle.lexer.proofs.bindings.path_alone_at.Goals as goal

pub returns-in_err-end_word-clause-fault : goal.returns-in_err-end_word-clause-fault
returns-in_err-end_word-clause-fault c =
    let stops : Breaks PathAlone c.args.cursor c.in_err-end_word.field-0.0 =
    breaks_first _ _ _ _ c.in_err-end_word.ensures.fault in
    search (rules, stops)

pub returns-in_err-path-clause-fault : goal.returns-in_err-path-clause-fault
returns-in_err-path-clause-fault c =
    let stops : Breaks PathAlone c.args.cursor c.in_err-path.field-0.0 =
    breaks_next _ _ tt _ _ _ c.in_ok-end_word.ensures.reads (behind_none _) (
    breaks_next _ _ tt _ _ _ c.skip_blanks-start.ensures.blanks c.skip_blanks-start.ensures.behind (
    breaks_first _ _ _ _ c.in_err-path.ensures.fault)) in
    search (rules, stops)

pub returns-in_err-next-clause-fault : goal.returns-in_err-next-clause-fault
returns-in_err-next-clause-fault c =
    let stops : Breaks PathAlone c.args.cursor c.in_err-next.field-0.0 =
    breaks_next _ _ tt _ _ _ c.in_ok-end_word.ensures.reads (behind_none _) (
    breaks_next _ _ tt _ _ _ c.skip_blanks-start.ensures.blanks c.skip_blanks-start.ensures.behind (
    breaks_next _ _ (fragments_of c.in_ok-path.path) _ _ _ c.in_ok-path.ensures.reads c.in_ok-path.ensures.behind (
    breaks_first _ _ _ _ c.in_err-next.ensures.fault))) in
    search (rules, stops)

pub returns-clause-reads : goal.returns-clause-reads
returns-clause-reads c =
    goes_on {value = tt} c.in_ok-end_word.ensures.reads (
    goes_on {value = tt} c.skip_blanks-start.ensures.blanks (
    goes_on {value = fragments_of c.in_ok-path.path} c.in_ok-path.ensures.reads (
    goes_on {value = tt} c.in_ok-next.ensures.reads (
    refl))))

pub returns-clause-behind : goal.returns-clause-behind
returns-clause-behind c =
    behind_both _ _ _ c.skip_blanks-start.ensures.behind (
    behind_both _ _ _ c.in_ok-path.ensures.behind c.in_ok-next.ensures.behind)
