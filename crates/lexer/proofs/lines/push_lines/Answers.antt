use Rattle.std.proofs.Common.{sym, ◌∙◌}
use Rattle.lexer.proofs.Contents.{begins_there}
use Rattle.lexer.proofs.Texts.{said_more, said_nothing}
use Rattle.lexer.proofs.lines.push_lines.Goals as goal

pub lines-preserved-in_ok-push : goal.lines-preserved-in_ok-push
lines-preserved-in_ok-push c =
    let begins = begins_there c.lines.at.rest.now (sym c.is_empty.ensures ∙ c.lines-test.true) in
    let reads = rw c.in-Some.is at c.in_ok-found.ensures.reads in
    rw c.in_ok-push.ensures.ok (said_more _ _ _ _ _ _ c.in-Some.statement c.lines.invariant begins reads c.in_ok-found.ensures.behind c.opens_block-inside.ensures)

pub lines-preserved : goal.lines-preserved
lines-preserved c =
    let begins = begins_there c.lines.at.rest.now (sym c.is_empty.ensures ∙ c.lines-test.true) in
    let reads = rw c.in_default.is at c.in_ok-found.ensures.reads in
    said_nothing _ _ _ _ _ c.lines.invariant begins reads c.in_ok-found.ensures.behind
