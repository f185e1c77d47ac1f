use Rattle.std.proofs.Common.{◌∙◌, Some, ap, subst, sym, List, Option, ℕ}
use Rattle.std.specs.Option.{option_map}
use Rattle.seen_true.specs.Going.{Notes}
use Rattle.seen.proofs.retold.Retold.put_base.Goals as goal

pub put_anew-requires-clause-notes : goal.put_anew-requires-clause-notes
put_anew-requires-clause-notes g c =
    subst (λ (o : Option (List ℕ)). Notes g.S.Texts.tells g.B.Beginning.begun o c.args.self.now.noted.lines.items (g.S.Texts.world c.args.self.now.site)) (ap (option_map (λ text. text.items)) c.in-Some.is ∙ ap Some (sym c.as_slice.ensures.value)) c.requires.notes

pub returns-in-None-clause-notes : goal.returns-in-None-clause-notes
returns-in-None-clause-notes g c =
    subst (λ (o : Option (List ℕ)). Notes g.S.Texts.tells g.B.Beginning.begun o c.args.self.now.noted.lines.items (g.S.Texts.world c.args.self.now.site)) (ap (option_map (λ text. text.items)) c.in-None.is) c.requires.notes
