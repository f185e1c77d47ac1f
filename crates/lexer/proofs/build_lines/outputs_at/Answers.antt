use Rattle.std.proofs.Common.{◌≢◌, ◌++◌, [], refl, rules}
use Rattle.lexer.specs.Grammar.{Is, Give}
use Rattle.lexer.specs.Grammar.Then.{goes_on}
use Rattle.lexer.specs.Said.{paths_of}
use Rattle.lexer.specs.Statements.{some_of, Marked}
use Rattle.lexer.specs.Values.{Paths}
use Rattle.lexer.specs.declared.tokens.Mark.TheVariants.{Bar}
use Rattle.lexer.proofs.Marks.{behind_explicit, behind_implicit, some_of_both, none_of_both, never}
use Rattle.lexer.proofs.Reading.{breaks_first, breaks_next, breaks_unexpected}
use Rattle.lexer.proofs.build_lines.outputs_at.Goals as goal

pub returns-clause-reads : goal.returns-clause-reads
returns-clause-reads c =
    let some : c.in_ok-explicit.explicit ++ c.in_ok-implicit.implicit ≢ [] = never _ c.are_none.ensures.1 c.if-are_none.false in
    goes_on {value = paths_of c.in_ok-explicit.explicit} c.in_ok-explicit.ensures.reads (goes_on {value = paths_of c.in_ok-implicit.implicit} c.in_ok-implicit.ensures.reads (goes_on {value = tt} (some_of_both c.in_ok-explicit.explicit c.in_ok-implicit.implicit _ some) refl))

pub returns-in_err-explicit-clause-fault : goal.returns-in_err-explicit-clause-fault
returns-in_err-explicit-clause-fault c =
    let stops = breaks_first Paths behind_explicit c.args.cursor _ c.in_err-explicit.ensures.fault in
    search (rules, stops)

pub returns-in_err-implicit-clause-fault : goal.returns-in_err-implicit-clause-fault
returns-in_err-implicit-clause-fault c =
    let es = paths_of c.in_ok-explicit.explicit in
    let inner = breaks_first (Marked Bar) (behind_implicit es) c.in_ok-explicit.bar _ c.in_err-implicit.ensures.fault in
    let stops = breaks_next Paths behind_explicit es c.args.cursor c.in_ok-explicit.bar _ c.in_ok-explicit.ensures.reads c.in_ok-explicit.ensures.behind inner in
    search (rules, stops)

pub returns-then-are_none-clause-fault : goal.returns-then-are_none-clause-fault
returns-then-are_none-clause-fault c =
    let es = paths_of c.in_ok-explicit.explicit in
    let is = paths_of c.in_ok-implicit.implicit in
    let colon = c.in_ok-implicit.colon in
    let none = none_of_both c.in_ok-explicit.explicit c.in_ok-implicit.implicit colon.rest.now (c.are_none.ensures.0 c.if-are_none.true) in
    let one = breaks_unexpected (some_of (es ++ is)) colon c.unexpected.result c.unexpected.ensures none in
    let inner = breaks_first (Is (some_of (es ++ is))) (λ _. Give (es, is)) colon c.unexpected.result one in
    let behind_bar = breaks_next (Marked Bar) (behind_implicit es) is c.in_ok-explicit.bar colon c.unexpected.result c.in_ok-implicit.ensures.reads c.in_ok-implicit.ensures.behind inner in
    breaks_next Paths behind_explicit es c.args.cursor c.in_ok-explicit.bar c.unexpected.result c.in_ok-explicit.ensures.reads c.in_ok-explicit.ensures.behind behind_bar
