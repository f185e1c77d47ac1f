use Rattle.std.proofs.Common.{◌∙◌, ap, ◌+◌, ℕ}
use Rattle.lexer.proofs.Places.{behind_byte, counted, stripped}
use Rattle.lexer.proofs.cursor.Cursor.strip_one.Goals as goal

pub returns-clause-behind : goal.returns-clause-behind
returns-clause-behind c = behind_byte _ _ c.args.wanted (stripped c.args.wanted _ _ c.in_ok-rest.ensures) (ap (λ (n : ℕ). c.args.self.line + n) (c.from.ensures ∙ counted _))
