use Rattle.std.proofs.Common.{◌∙◌}
use Rattle.seen.proofs.Asked.{asks_on}
use Rattle.seen.proofs.Kept.{looks_keep}
use Rattle.seen.proofs.Since.{looks_stay}
use Rattle.seen.proofs.retold.Retold.enter.Goals as goal

-- nothing else is known
pub invariant_of-self : goal.invariant_of-self
invariant_of-self g c =
    let stays = looks_stay g.S.Texts.tells g.B.Beginning.begun (g.S.Texts.world c.args.self.now.site) (g.S.Texts.world c.read_by.new.site) c.args.self.now.so_far c.read_by.ensures.asks.looks in
    let keeps = looks_keep g.S.Texts.tells g.B.Beginning.begun (g.S.Texts.world c.args.self.now.site) (g.S.Texts.world c.read_by.new.site) c.calls_note.ensures c.calls_stand.ensures c.read_by.ensures.asks.looks in
    record {
      one = c.args.self.now.one;
      begun = c.args.self.now.begun;
      counted = c.args.self.now.counted;
      hidden = c.args.self.now.hidden;
      makes = c.args.self.now.makes;
      room = c.args.self.now.room;
      begins = c.args.self.now.begins;
      so_far = stays.so_far;
      started = λ is p. stays.started is p ∙ c.args.self.now.started is p;
      numbers = c.args.self.now.numbers;
      owns = c.args.self.now.owns;
      here = c.args.self.now.here;
      stand = keeps.stand c.args.self.now.stand;
      kept = λ whole. keeps.notes _ _ (c.args.self.now.kept whole);
    }

pub returns-clause-asks : goal.returns-clause-asks
returns-clause-asks g c = asks_on g.S.Texts.tells g.B.Beginning.begun (g.S.Texts.world c.args.self.now.site) (g.S.Texts.world c.read_by.new.site) c.args.self.now.so_far c.args.self.now.begins c.looks_are_told.ensures c.read_by.result c.read_by.ensures.asks
