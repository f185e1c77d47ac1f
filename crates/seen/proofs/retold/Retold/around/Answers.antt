use Rattle.std.proofs.Common.{◌∙◌, sym}
use Rattle.std.specs.Option.{option_map}
use Rattle.std.proofs.lemmas.Bool.{false≢true}
use Rattle.seen.proofs.Kept.{notes_untold, stand_untold}
use Rattle.seen.proofs.retold.Retold.around.Goals as goal

pub invariant_of-result : goal.invariant_of-result
invariant_of-result g c = record {
  one = λ is. absurd (false≢true (sym c.requires.untold ∙ is));
  begun = λ one. absurd (false≢true one);
  counted = λ is. absurd (false≢true (sym c.requires.untold ∙ is));
  hidden = λ is. absurd (false≢true (sym c.requires.untold ∙ is));
  makes = λ is. absurd (false≢true (sym c.requires.untold ∙ is));
  room = λ is. absurd (false≢true (sym c.requires.untold ∙ is));
  begins = λ is. absurd (false≢true (sym c.requires.untold ∙ is));
  so_far = λ is. absurd (false≢true (sym c.requires.untold ∙ is));
  started = λ is. absurd (false≢true (sym c.requires.untold ∙ is));
  numbers = λ is. absurd (false≢true (sym c.requires.untold ∙ is));
  owns = λ is. absurd (false≢true (sym c.requires.untold ∙ is));
  here = λ is. absurd (false≢true (sym c.requires.untold ∙ is));
  stand = stand_untold g.S.Texts.tells g.B.Beginning.begun (g.S.Texts.world c.args.site) (λ is. false≢true (sym c.requires.untold ∙ is));
  kept = λ whole. notes_untold g.S.Texts.tells g.B.Beginning.begun _ _ (g.S.Texts.world c.args.site) (λ is. false≢true (sym c.requires.untold ∙ is));
}
