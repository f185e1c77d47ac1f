use Rattle.std.proofs.Common.{◌≡◌, ◌∙◌, sym, true, false}
use Rattle.lexer.proofs.Marks.{first_none}
use Rattle.lexer.proofs.build_lines.are_none.Goals as goal

pub returns-else-is_empty : goal.returns-else-is_empty
returns-else-is_empty c = (
  (λ same. let clash : false ≡ true = sym c.if-is_empty.false ∙ same in absurd (cc)),
  (λ none. c.is_empty.ensures.1 (first_none c.args.explicit.now c.args.implicit.now none)),
)
