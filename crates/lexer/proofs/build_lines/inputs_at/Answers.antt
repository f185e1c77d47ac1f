use Rattle.std.proofs.Common.{refl, rules}
use Rattle.lexer.specs.Grammar.Then.{goes_on}
use Rattle.lexer.specs.Said.{paths_of}
use Rattle.lexer.specs.Statements.{Marked}
use Rattle.lexer.specs.Values.{Paths}
use Rattle.lexer.specs.declared.tokens.Mark.TheVariants.{Bar, DoubleBar, BarAt}
use Rattle.lexer.proofs.Marks.{behind_explicit_inputs, behind_implicit_inputs, behind_order_only, behind_validations}
use Rattle.lexer.proofs.Reading.{breaks_first, breaks_next}
use Rattle.lexer.proofs.build_lines.inputs_at.Goals as goal

pub returns-clause-reads : goal.returns-clause-reads
returns-clause-reads c =
    goes_on {value = paths_of c.in_ok-explicit.explicit} c.in_ok-explicit.ensures.reads (
    goes_on {value = paths_of c.in_ok-implicit.implicit} c.in_ok-implicit.ensures.reads (
    goes_on {value = paths_of c.in_ok-order_only.order_only} c.in_ok-order_only.ensures.reads (
    goes_on {value = paths_of c.in_ok-validations.validations} c.in_ok-validations.ensures.reads refl)))

pub returns-in_err-explicit-clause-fault : goal.returns-in_err-explicit-clause-fault
returns-in_err-explicit-clause-fault c =
    let stops = breaks_first Paths behind_explicit_inputs c.args.cursor _ c.in_err-explicit.ensures.fault in
    search (rules, stops)

pub returns-in_err-implicit-clause-fault : goal.returns-in_err-implicit-clause-fault
returns-in_err-implicit-clause-fault c =
    let es = paths_of c.in_ok-explicit.explicit in
    let inner = breaks_first (Marked Bar) (behind_implicit_inputs es) c.in_ok-explicit.bar _ c.in_err-implicit.ensures.fault in
    let stops = breaks_next Paths behind_explicit_inputs es c.args.cursor c.in_ok-explicit.bar _ c.in_ok-explicit.ensures.reads c.in_ok-explicit.ensures.behind inner in
    search (rules, stops)

pub returns-in_err-order_only-clause-fault : goal.returns-in_err-order_only-clause-fault
returns-in_err-order_only-clause-fault c =
    let es = paths_of c.in_ok-explicit.explicit in
    let is = paths_of c.in_ok-implicit.implicit in
    let last = breaks_first (Marked DoubleBar) (behind_order_only es is) c.in_ok-implicit.double_bar _ c.in_err-order_only.ensures.fault in
    let inner = breaks_next (Marked Bar) (behind_implicit_inputs es) is c.in_ok-explicit.bar c.in_ok-implicit.double_bar _ c.in_ok-implicit.ensures.reads c.in_ok-implicit.ensures.behind last in
    let stops = breaks_next Paths behind_explicit_inputs es c.args.cursor c.in_ok-explicit.bar _ c.in_ok-explicit.ensures.reads c.in_ok-explicit.ensures.behind inner in
    search (rules, stops)

pub returns-in_err-validations-clause-fault : goal.returns-in_err-validations-clause-fault
returns-in_err-validations-clause-fault c =
    let es = paths_of c.in_ok-explicit.explicit in
    let is = paths_of c.in_ok-implicit.implicit in
    let os = paths_of c.in_ok-order_only.order_only in
    let end = breaks_first (Marked BarAt) (behind_validations es is os) c.in_ok-order_only.bar_at _ c.in_err-validations.ensures.fault in
    let last = breaks_next (Marked DoubleBar) (behind_order_only es is) os c.in_ok-implicit.double_bar c.in_ok-order_only.bar_at _ c.in_ok-order_only.ensures.reads c.in_ok-order_only.ensures.behind end in
    let inner = breaks_next (Marked Bar) (behind_implicit_inputs es) is c.in_ok-explicit.bar c.in_ok-implicit.double_bar _ c.in_ok-implicit.ensures.reads c.in_ok-implicit.ensures.behind last in
    let stops = breaks_next Paths behind_explicit_inputs es c.args.cursor c.in_ok-explicit.bar _ c.in_ok-explicit.ensures.reads c.in_ok-explicit.ensures.behind inner in
    search (rules, stops)
