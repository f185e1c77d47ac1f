use Rattle.std.proofs.Common.{◌∙◌, sym, refl, ap, subst, List, [], ℕ}
use Rattle.std.specs.Prelude.{bytes_eq}
use Rattle.std.specs.Option.{option_map}
use Rattle.model.specs.Graph.{has}
use Rattle.model.specs.World.{File}
use Rattle.seen_true.specs.Counting.{Knowing, telling}
use Rattle.seen_true.specs.Going.{Notes}
use Rattle.seen.specs.Known.{NumbersSo}
use Rattle.seen.specs.Makers.{maker_of}
use Rattle.seen.proofs.Entered.{enters_first}
use Rattle.seen.proofs.Kept.{known_counts, known_numbers, stand_of}
use Rattle.seen.proofs.Making.{made_of}
use Rattle.seen.proofs.Since.{at_first, none_since}
use Rattle.seen.proofs.retold.Retold.over.Goals as goal

pub invariant_of-result : goal.invariant_of-result
invariant_of-result g c =
    let noted = c.enters_noted.ensures g.S.Texts.tells g.B.Beginning.begun (option_map (λ text. text.items) c.args.entry.base) (g.S.Texts.world c.args.site) c.requires.first c.requires.begins
    (λ is. enters_first g.S.Texts.tells g.B.Beginning.begun c.args.entry (g.S.Texts.world c.args.site) is (c.requires.knows is) (c.requires.first is) c.requires.enters) in
    record {
      one = λ is. refl;
      begun = λ is. refl;
      counted = λ is p file. ap (λ (k : Knowing). (telling k).counts p file) (c.requires.knows is) ∙ known_counts c.args.entry.counts p file;
      hidden = λ is p. ap (λ (k : Knowing). bytes_eq k.seen p) (c.requires.knows is);
      makes = λ is job p. ap (λ (k : Knowing). has (k.makes job) p) (c.requires.knows is) ∙ made_of c.args.entry.counts.makers c.requires.unbegun.table job p;
      room = λ is. c.requires.unbegun.room;
      begins = c.requires.begins;
      so_far = λ is. at_first g.B.Beginning.begun (g.S.Texts.world c.args.site) (c.requires.first is);
      started = λ is p. none_since g.B.Beginning.begun (g.S.Texts.world c.args.site) (c.requires.first is) p ∙ sym (c.requires.unbegun.none (maker_of c.args.entry.counts.makers p));
      numbers = λ is. subst (λ (k : Knowing). NumbersSo k c.args.entry.counts) (sym (c.requires.knows is)) (known_numbers c.args.entry.counts);
      owns = λ is p. ap (λ (k : Knowing). k.is_own p) (c.requires.knows is);
      here = λ is. ap (λ (k : Knowing). k.seen) (c.requires.knows is);
      stand = stand_of g.S.Texts.tells g.B.Beginning.begun (option_map (λ text. text.items) c.args.entry.base) [] (g.S.Texts.world c.args.site) noted;
      kept = λ whole. subst (λ (lines : List ℕ). Notes g.S.Texts.tells g.B.Beginning.begun (option_map (λ text. text.items) c.args.entry.base) lines (g.S.Texts.world c.args.site)) (sym c.new.ensures) noted;
    }
