use Rattle.std.proofs.Common.{◌∙◌}
use Rattle.seen.proofs.Kept.{ticked_keep}
use Rattle.seen.proofs.Since.{ticked}
use Rattle.seen.proofs.Told.{err_on, if_ok_on, ticks_on, ticks_or_not_on}
use Rattle.seen.proofs.retold.RetoldSite.tick.Goals as goal

-- nothing else is known
pub invariant_of-self : goal.invariant_of-self
invariant_of-self g c =
    let stays = ticked g.S.Texts.tells g.B.Beginning.begun (g.S.Texts.world c.args.self.now.site) (g.S.Texts.world c.tick.new.self) c.args.self.now.so_far c.args.path.now c.tick.result c.tick.ensures.ticks c.tick.ensures.err in
    let keeps = ticked_keep g.S.Texts.tells g.B.Beginning.begun (g.S.Texts.world c.args.self.now.site) (g.S.Texts.world c.tick.new.self) c.calls_note.ensures c.calls_stand.ensures c.args.path.now (λ tells. (c.may_count_otherwise.ensures tells c.if-may_count_otherwise.false).0) c.tick.result c.tick.ensures.ticks c.tick.ensures.err in
    record {
      one = c.args.self.now.one;
      begun = c.args.self.now.begun;
      counted = c.args.self.now.counted;
      hidden = c.args.self.now.hidden;
      makes = c.args.self.now.makes;
      room = c.args.self.now.room;
      begins = c.args.self.now.begins;
      so_far = stays.so_far;
      started = λ is p. stays.started is p ∙ c.args.self.now.started is p;
      numbers = c.args.self.now.numbers;
      owns = c.args.self.now.owns;
      here = c.args.self.now.here;
      stand = keeps.stand c.args.self.now.stand;
      kept = λ whole. keeps.notes _ _ (c.args.self.now.kept whole);
    }

pub returns-clause-ticks : goal.returns-clause-ticks
returns-clause-ticks g c = if_ok_on c.tick.result (λ stamp is. ticks_on g.S.Texts.tells g.B.Beginning.begun (g.S.Texts.world c.args.self.now.site) (g.S.Texts.world c.tick.new.self) c.args.self.now.so_far c.args.self.now.begins c.writes_are_told.ensures c.args.path.now stamp (λ tells. c.may_count_otherwise.ensures tells c.if-may_count_otherwise.false) is) c.tick.ensures.ticks

pub returns-clause-err : goal.returns-clause-err
returns-clause-err g c = err_on c.tick.result (ticks_or_not_on g.S.Texts.tells g.B.Beginning.begun (g.S.Texts.world c.args.self.now.site) (g.S.Texts.world c.tick.new.self) c.args.self.now.so_far c.args.self.now.begins c.writes_are_told.ensures c.looks_are_told.ensures c.args.path.now (λ tells. c.may_count_otherwise.ensures tells c.if-may_count_otherwise.false)) c.tick.ensures.err
