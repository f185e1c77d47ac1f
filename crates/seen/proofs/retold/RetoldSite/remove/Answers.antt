use Rattle.std.proofs.Common.{◌∙◌, None}
use Rattle.seen.proofs.Kept.{replaced_keep}
use Rattle.seen.proofs.Since.{replaced}
use Rattle.seen.proofs.Told.{err_on, ok_on, removes_on, removes_or_not_on}
use Rattle.seen.proofs.retold.RetoldSite.remove.Goals as goal

-- nothing else is known
pub invariant_of-self : goal.invariant_of-self
invariant_of-self g c =
    let stays = replaced g.S.Texts.tells g.B.Beginning.begun (g.S.Texts.world c.args.self.now.site) (g.S.Texts.world c.remove.new.self) c.args.self.now.so_far c.args.path.now None c.remove.result c.remove.ensures.writes c.remove.ensures.err in
    let keeps = replaced_keep g.S.Texts.tells g.B.Beginning.begun (g.S.Texts.world c.args.self.now.site) (g.S.Texts.world c.remove.new.self) c.calls_note.ensures c.calls_stand.ensures c.args.path.now (λ tells. c.is_kept_from_it.ensures tells c.if-is_kept_from_it.false) None c.remove.result c.remove.ensures.writes c.remove.ensures.err in
    record {
      one = c.args.self.now.one;
      begun = c.args.self.now.begun;
      counted = c.args.self.now.counted;
      hidden = c.args.self.now.hidden;
      makes = c.args.self.now.makes;
      room = c.args.self.now.room;
      begins = c.args.self.now.begins;
      so_far = stays.so_far;
      started = λ is p. stays.started is p ∙ c.args.self.now.started is p;
      numbers = c.args.self.now.numbers;
      owns = c.args.self.now.owns;
      here = c.args.self.now.here;
      stand = keeps.stand c.args.self.now.stand;
      kept = λ whole. keeps.notes _ _ (c.args.self.now.kept whole);
    }

pub returns-clause-writes : goal.returns-clause-writes
returns-clause-writes g c = ok_on c.remove.result (removes_on g.S.Texts.tells g.B.Beginning.begun (g.S.Texts.world c.args.self.now.site) (g.S.Texts.world c.remove.new.self) c.args.self.now.so_far c.args.self.now.begins c.writes_are_told.ensures c.args.path.now (λ tells. c.is_kept_from_it.ensures tells c.if-is_kept_from_it.false)) c.remove.ensures.writes

pub returns-clause-err : goal.returns-clause-err
returns-clause-err g c = err_on c.remove.result (removes_or_not_on g.S.Texts.tells g.B.Beginning.begun (g.S.Texts.world c.args.self.now.site) (g.S.Texts.world c.remove.new.self) c.args.self.now.so_far c.args.self.now.begins c.writes_are_told.ensures c.looks_are_told.ensures c.args.path.now (λ tells. c.is_kept_from_it.ensures tells c.if-is_kept_from_it.false)) c.remove.ensures.err
