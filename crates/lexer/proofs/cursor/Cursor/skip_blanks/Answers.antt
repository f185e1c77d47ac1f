use Rattle.std.proofs.Common.{◌≡◌, ◌∙◌, sym, ap, None}
use Rattle.lexer.specs.Tokens.{join}
use Rattle.lexer.specs.Values.AreBlanks.{last, more}
use Rattle.lexer.proofs.Places.{behind_both}
use Rattle.lexer.proofs.cursor.Cursor.skip_blanks.Goals as goal

pub joins-preserved : goal.joins-preserved
joins-preserved c = (
  behind_both _ _ _ c.joins.invariant.0 (behind_both _ _ _ c.skip_spaces.ensures.behind c.in-Some.ensures.behind),
  (λ rest blanks. c.joins.invariant.1 rest (more (ap join (sym c.skip_spaces.ensures.rest) ∙ sym c.in-Some.ensures.rest) blanks)),
)

pub returns-clause-blanks : goal.returns-clause-blanks
returns-clause-blanks c =
    let none : None ≡ join c.skip_spaces.result.rest.now = c.in_default.ensures.rest in
    c.joins.invariant.1 _ (last (sym c.skip_spaces-2.ensures.rest) (ap join (c.skip_spaces-2.ensures.rest ∙ sym c.skip_spaces.ensures.rest) ∙ sym none))
