use Rattle.std.proofs.Common.{◌∙◌}
use Rattle.stand_in.proofs.place.SeenPlace.run_generator.Goals as goal

-- what is known of the beginning still is: it was only looked
pub invariant_of-retold : goal.invariant_of-retold
invariant_of-retold g c =
    let stays = c.looks_go_on.ensures g.S.Texts.tells g.B.Beginning.begun (g.S.Texts.world c.args.self.now.retold.site) (g.S.Texts.world c.run_generator.new.self) c.args.self.now.retold.begins c.args.self.now.retold.so_far c.run_generator.ensures.looks in
    record {
      one = c.args.self.now.retold.one;
      begun = c.args.self.now.retold.begun;
      counted = c.args.self.now.retold.counted;
      hidden = c.args.self.now.retold.hidden;
      makes = c.args.self.now.retold.makes;
      room = c.args.self.now.retold.room;
      begins = c.args.self.now.retold.begins;
      so_far = stays.so_far;
      started = λ is p. stays.started is p ∙ c.args.self.now.retold.started is p;
      numbers = c.args.self.now.retold.numbers;
      owns = c.args.self.now.retold.owns;
      here = c.args.self.now.retold.here;
      stand = stays.stand c.args.self.now.retold.stand;
      kept = λ whole. stays.kept _ _ (c.args.self.now.retold.kept whole);
    }

pub returns-clause-looks : goal.returns-clause-looks
returns-clause-looks g c =
    (c.looks_go_on.ensures g.S.Texts.tells g.B.Beginning.begun (g.S.Texts.world c.args.self.now.retold.site) (g.S.Texts.world c.run_generator.new.self) c.args.self.now.retold.begins c.args.self.now.retold.so_far c.run_generator.ensures.looks).looks
