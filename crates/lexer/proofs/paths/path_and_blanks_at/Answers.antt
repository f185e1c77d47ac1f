use Rattle.std.proofs.Common.{refl, rules}
use Rattle.lexer.specs.Grammar.{Give, Then}
use Rattle.lexer.specs.Grammar.Then.{goes_on}
use Rattle.lexer.specs.Said.{fragments_of}
use Rattle.lexer.specs.Values.{Blanks, OfPath}
use Rattle.lexer.proofs.Reading.{breaks_first}
use Rattle.lexer.proofs.paths.path_and_blanks_at.Goals as goal

pub returns-clause-reads : goal.returns-clause-reads
returns-clause-reads c = goes_on {value = fragments_of c.in_ok-path.path} c.in_ok-path.ensures.reads (goes_on {value = tt} c.skip_blanks.ensures.blanks refl)

pub returns-in_err-path-clause-fault : goal.returns-in_err-path-clause-fault
returns-in_err-path-clause-fault c =
    let stops = breaks_first OfPath (λ path. Then Blanks (λ _. Give path)) c.args.cursor _ c.in_err-path.ensures.fault in
    search (rules, stops)
