use Rattle.std.proofs.Common.{◌∙◌}
use Rattle.seen.proofs.Kept.{waited_keep}
use Rattle.seen.proofs.Since.{waited}
use Rattle.seen.proofs.Told.{err_on, finishes_on, if_ok_on, looks_on}
use Rattle.seen.proofs.retold.RetoldSite.wait_any.Goals as goal

-- nothing else is known
pub invariant_of-self : goal.invariant_of-self
invariant_of-self g c =
    let stays = waited g.S.Texts.tells g.B.Beginning.begun (g.S.Texts.world c.args.self.now.site) (g.S.Texts.world c.wait_any.new.self) c.args.self.now.so_far c.wait_any.result c.wait_any.ensures.finishes c.wait_any.ensures.err in
    let keeps = waited_keep g.S.Texts.tells g.B.Beginning.begun (g.S.Texts.world c.args.self.now.site) (g.S.Texts.world c.wait_any.new.self) c.calls_note.ensures c.calls_stand.ensures c.wait_any.result c.wait_any.ensures.finishes c.wait_any.ensures.err in
    record {
      one = c.args.self.now.one;
      begun = c.args.self.now.begun;
      counted = c.args.self.now.counted;
      hidden = c.args.self.now.hidden;
      makes = c.args.self.now.makes;
      room = c.args.self.now.room;
      begins = c.args.self.now.begins;
      so_far = stays.so_far;
      started = λ is p. stays.started is p ∙ c.args.self.now.started is p;
      numbers = c.args.self.now.numbers;
      owns = c.args.self.now.owns;
      here = c.args.self.now.here;
      stand = keeps.stand c.args.self.now.stand;
      kept = λ whole. keeps.notes _ _ (c.args.self.now.kept whole);
    }

pub returns-clause-finishes : goal.returns-clause-finishes
returns-clause-finishes g c = if_ok_on c.wait_any.result (λ v is. finishes_on g.S.Texts.tells g.B.Beginning.begun (g.S.Texts.world c.args.self.now.site) (g.S.Texts.world c.wait_any.new.self) c.args.self.now.so_far c.args.self.now.begins c.events_are_told.ensures v.job v.ok is) c.wait_any.ensures.finishes

pub returns-clause-err : goal.returns-clause-err
returns-clause-err g c = err_on c.wait_any.result (looks_on g.S.Texts.tells g.B.Beginning.begun (g.S.Texts.world c.args.self.now.site) (g.S.Texts.world c.wait_any.new.self) c.args.self.now.so_far c.args.self.now.begins c.looks_are_told.ensures) c.wait_any.ensures.err
