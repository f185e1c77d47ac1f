use Rattle.std.proofs.Common.{rules}
use Rattle.lexer.specs.Grammar.{Is}
use Rattle.lexer.specs.Grammar.Then.{goes_on}
use Rattle.lexer.specs.Statements.{keyword_of, BehindWord}
use Rattle.lexer.specs.Tokens.{name}
use Rattle.lexer.proofs.Reading.{breaks_first, breaks_next}
use Rattle.lexer.proofs.forms.statement_at.Goals as goal

pub returns-clause-reads : goal.returns-clause-reads
returns-clause-reads c = goes_on {value = c.in_ok-word.word.now} c.in_ok-word.ensures.reads c.in_ok-statement.ensures.reads

pub returns-in_err-word-clause-fault : goal.returns-in_err-word-clause-fault
returns-in_err-word-clause-fault c =
    let stops = breaks_first (Is name) (λ word. BehindWord (keyword_of word) word) c.args.cursor _ c.in_err-word.ensures.fault in
    search (rules, stops)

pub returns-in_err-statement-clause-fault : goal.returns-in_err-statement-clause-fault
returns-in_err-statement-clause-fault c =
    let stops = breaks_next (Is name) (λ word. BehindWord (keyword_of word) word) c.in_ok-word.word.now c.args.cursor c.in_ok-word.after _ c.in_ok-word.ensures.reads c.in_ok-word.ensures.behind c.in_err-statement.ensures.fault in
    search (rules, stops)
