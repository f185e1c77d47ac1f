use Rattle.std.proofs.Common.{ℕ, List, refl, rules}
use Rattle.lexer.specs.Grammar.{Grammar, Is, Give, Then}
use Rattle.lexer.specs.Grammar.Then.{goes_on}
use Rattle.lexer.specs.Said.{Form, fragments_of}
use Rattle.lexer.specs.Said.Form.{block_binding}
use Rattle.lexer.specs.Statements.{Bound}
use Rattle.lexer.specs.Tokens.{name}
use Rattle.lexer.proofs.Reading.{breaks_first, breaks_next}
use Rattle.lexer.proofs.forms.block_binding_at.Goals as goal

abbrev behind_name : List ℕ → Grammar Form
behind_name word = Then Bound (λ value. Give (block_binding word value))

pub returns-clause-reads : goal.returns-clause-reads
returns-clause-reads c = goes_on {value = c.in_ok-name.name.now} c.in_ok-name.ensures.reads (goes_on {value = fragments_of c.in_ok-value.value} c.in_ok-value.ensures.reads refl)

pub returns-in_err-name-clause-fault : goal.returns-in_err-name-clause-fault
returns-in_err-name-clause-fault c =
    let stops = breaks_first (Is name) behind_name c.args.cursor _ c.in_err-name.ensures.fault in
    search (rules, stops)

pub returns-in_err-value-clause-fault : goal.returns-in_err-value-clause-fault
returns-in_err-value-clause-fault c =
    let bound = breaks_first Bound (λ value. Give (block_binding c.in_ok-name.name.now value)) c.in_ok-name.after _ c.in_err-value.ensures.fault in
    let stops = breaks_next (Is name) behind_name c.in_ok-name.name.now c.args.cursor c.in_ok-name.after _ c.in_ok-name.ensures.reads c.in_ok-name.ensures.behind bound in
    search (rules, stops)
