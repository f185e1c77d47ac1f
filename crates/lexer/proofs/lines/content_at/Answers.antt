use Rattle.std.proofs.Common.{sym, rules, ◌∙◌}
use Rattle.lexer.specs.Said.{form_of}
use Rattle.lexer.specs.Statements.{OfStatement, OfBlock}
use Rattle.lexer.specs.Lines.{Nothing, Something, Content}
use Rattle.lexer.proofs.Choices.{breaks_as}
use Rattle.lexer.proofs.Contents.{content_nothing, content_statement, content_block, some_form, breaks_some}
use Rattle.lexer.proofs.lines.content_at.Goals as goal

pub returns-in_err-next-clause-fault : goal.returns-in_err-next-clause-fault
returns-in_err-next-clause-fault c =
    let nothing = sym c.says_nothing.ensures ∙ c.if-says_nothing.true in
    let stops = breaks_as Nothing (Content c.args.inside c.args.indented) c.args.start _ (λ outcome. content_nothing c.args.inside c.args.indented c.args.start.rest.now outcome nothing) c.in_err-next.ensures.fault in
    search (rules, stops)

pub returns-then-says_nothing-clause-reads : goal.returns-then-says_nothing-clause-reads
returns-then-says_nothing-clause-reads c =
    content_nothing c.args.inside c.args.indented c.args.start.rest.now _ (sym c.says_nothing.ensures ∙ c.if-says_nothing.true) c.in_ok-next.ensures.reads

pub returns-in_err-statement-clause-fault : goal.returns-in_err-statement-clause-fault
returns-in_err-statement-clause-fault c =
    let something = sym c.says_nothing.ensures ∙ c.if-says_nothing.false in
    let stuck = breaks_some OfStatement c.args.start _ c.in_err-statement.ensures.fault in
    let stops = breaks_as (Something OfStatement) (Content c.args.inside c.args.indented) c.args.start _ (λ outcome. content_statement c.args.inside c.args.indented c.args.start.rest.now outcome something c.if-not-indented.true) stuck in
    search (rules, stops)

pub returns-then-not-indented-clause-reads : goal.returns-then-not-indented-clause-reads
returns-then-not-indented-clause-reads c =
    content_statement c.args.inside c.args.indented c.args.start.rest.now _ (sym c.says_nothing.ensures ∙ c.if-says_nothing.false) c.if-not-indented.true
    (some_form OfStatement _ _ (form_of c.in_ok-statement.statement) c.in_ok-statement.ensures.reads)

pub returns-in_err-statement-2-clause-fault : goal.returns-in_err-statement-2-clause-fault
returns-in_err-statement-2-clause-fault c =
    let something = sym c.says_nothing.ensures ∙ c.if-says_nothing.false in
    let stuck = breaks_some OfBlock c.args.start _ c.in_err-statement-2.ensures.fault in
    let stops = breaks_as (Something OfBlock) (Content c.args.inside c.args.indented) c.args.start _ (λ outcome. content_block c.args.inside c.args.indented c.args.start.rest.now outcome something c.if-not-indented.false c.if-not-inside.false) stuck in
    search (rules, stops)

pub returns-clause-reads : goal.returns-clause-reads
returns-clause-reads c =
    content_block c.args.inside c.args.indented c.args.start.rest.now _ (sym c.says_nothing.ensures ∙ c.if-says_nothing.false) c.if-not-indented.false c.if-not-inside.false
    (some_form OfBlock _ _ (form_of c.in_ok-statement-2.statement) c.in_ok-statement-2.ensures.reads)
