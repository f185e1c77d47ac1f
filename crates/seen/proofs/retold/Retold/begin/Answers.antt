use Rattle.std.proofs.Common.{◌∙◌, sym}
use Rattle.std.proofs.lemmas.Bool.{false≢true}
use Rattle.seen.proofs.Kept.{notes_untold}
use Rattle.seen.proofs.retold.Retold.begin.Goals as goal

pub invariant_of-self : goal.invariant_of-self
invariant_of-self g c = record {
  one = c.args.self.now.one;
  begun = λ one. absurd (false≢true (sym c.requires.many ∙ one));
  counted = λ is. absurd (false≢true (sym c.requires.many ∙ c.args.self.now.one is));
  hidden = λ is. absurd (false≢true (sym c.requires.many ∙ c.args.self.now.one is));
  makes = λ is. absurd (false≢true (sym c.requires.many ∙ c.args.self.now.one is));
  room = λ is. absurd (false≢true (sym c.requires.many ∙ c.args.self.now.one is));
  begins = c.args.self.now.begins;
  so_far = c.args.self.now.so_far;
  started = λ is. absurd (false≢true (sym c.requires.many ∙ c.args.self.now.one is));
  numbers = λ is. absurd (false≢true (sym c.requires.many ∙ c.args.self.now.one is));
  owns = λ is. absurd (false≢true (sym c.requires.many ∙ c.args.self.now.one is));
  here = λ is. absurd (false≢true (sym c.requires.many ∙ c.args.self.now.one is));
  stand = c.args.self.now.stand;
  kept = λ whole. notes_untold g.S.Texts.tells g.B.Beginning.begun _ _ (g.S.Texts.world c.args.self.now.site) (λ is. false≢true (sym c.requires.many ∙ c.args.self.now.one is));
}
