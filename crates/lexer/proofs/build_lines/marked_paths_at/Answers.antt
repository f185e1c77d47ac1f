use Rattle.std.proofs.Common.{◌∙◌, sym, rules}
use Rattle.lexer.proofs.Marks.{marked_is, breaks_marked}
use Rattle.lexer.proofs.build_lines.marked_paths_at.Goals as goal

pub returns-then-is-clause-reads : goal.returns-then-is-clause-reads
returns-then-is-clause-reads c = marked_is c.args.wanted c.in-Some.mark c.args.cursor.rest.now c.in-Some.after.rest.now _ c.in-Some.ensures.mark (sym c.is.ensures ∙ c.if-is.true) c.in_ok-paths.ensures.reads

pub returns-in_err-paths-clause-fault : goal.returns-in_err-paths-clause-fault
returns-in_err-paths-clause-fault c =
    let stops = breaks_marked c.args.wanted c.in-Some.mark c.args.cursor c.in-Some.after _ c.in-Some.ensures.mark (sym c.is.ensures ∙ c.if-is.true) c.in-Some.ensures.behind c.in_err-paths.ensures.fault in
    search (rules, stops)
