use Rattle.std.proofs.Common.{rules}
use Rattle.lexer.specs.Lines.{OfLine, Content}
use Rattle.lexer.proofs.Choices.{breaks_from}
use Rattle.lexer.proofs.Contents.{line_reads}
use Rattle.lexer.proofs.lines.line_at.Goals as goal

pub returns-in_err-said-clause-fault : goal.returns-in_err-said-clause-fault
returns-in_err-said-clause-fault c =
    let stops =
    breaks_from (Content c.args.inside c.begins_with_space-indented.result) (OfLine c.args.inside) c.args.cursor c.skip_blanks-start.result _ c.skip_blanks-start.ensures.behind
    (λ outcome. line_reads c.args.inside _ _ _ outcome c.skip_blanks-start.ensures.blanks c.begins_with_space-indented.ensures)
    c.in_err-said.ensures.fault in
    search (rules, stops)

pub returns-clause-reads : goal.returns-clause-reads
returns-clause-reads c = line_reads c.args.inside _ _ _ _ c.skip_blanks-start.ensures.blanks c.begins_with_space-indented.ensures c.in_ok-said.ensures.reads
