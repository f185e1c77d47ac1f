use Rattle.std.proofs.Common.{◌∙◌}
use Rattle.seen.proofs.Kept.{restarts_keep}
use Rattle.seen.proofs.Since.{restarts_stay}
use Rattle.seen.proofs.Told.{restarts_on}
use Rattle.seen.proofs.retold.RetoldSite.restart.Goals as goal

-- nothing else is known
pub invariant_of-self : goal.invariant_of-self
invariant_of-self g c =
    let stays = restarts_stay g.S.Texts.tells g.B.Beginning.begun (g.S.Texts.world c.args.self.now.site) (g.S.Texts.world c.restart.new.self) c.args.self.now.so_far c.restart.ensures in
    let keeps = restarts_keep g.S.Texts.tells g.B.Beginning.begun (g.S.Texts.world c.args.self.now.site) (g.S.Texts.world c.restart.new.self) c.calls_note.ensures c.calls_stand.ensures c.restart.ensures in
    record {
      one = c.args.self.now.one;
      begun = c.args.self.now.begun;
      counted = c.args.self.now.counted;
      hidden = c.args.self.now.hidden;
      makes = c.args.self.now.makes;
      room = c.args.self.now.room;
      begins = c.args.self.now.begins;
      so_far = stays.so_far;
      started = λ is p. stays.started is p ∙ c.args.self.now.started is p;
      numbers = c.args.self.now.numbers;
      owns = c.args.self.now.owns;
      here = c.args.self.now.here;
      stand = keeps.stand c.args.self.now.stand;
      kept = λ whole. keeps.notes _ _ (c.args.self.now.kept whole);
    }

pub returns : goal.returns
returns g c = restarts_on g.S.Texts.tells g.B.Beginning.begun (g.S.Texts.world c.args.self.now.site) (g.S.Texts.world c.restart.new.self) c.args.self.now.so_far c.args.self.now.begins c.events_are_told.ensures c.restart.ensures
