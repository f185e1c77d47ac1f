use Rattle.std.proofs.Common.{Some, ap, subst, sym, ◌∙◌}
use Rattle.std.specs.Prelude.{OnErr, OnOk}
use Rattle.model.specs.Calls.{Writes, SpoilsOrNot}
use Rattle.model.specs.World.{World}
use Rattle.seen.specs.Begun.{told_world}
use Rattle.seen.proofs.Kept.{wrote_keep}
use Rattle.seen.proofs.Since.{wrote}
use Rattle.seen.proofs.Told.{err_on, ok_on, writes_on, spoils_or_not_on}
use Rattle.seen.proofs.retold.RetoldSite.write.Goals as goal

-- nothing else is known
pub invariant_of-self : goal.invariant_of-self
invariant_of-self g c =
    let stays = wrote g.S.Texts.tells g.B.Beginning.begun (g.S.Texts.world c.is_barred.new.self.site) (g.S.Texts.world c.write.new.self) c.is_barred.new.self.so_far c.args.path.now c.args.content.now c.write.result c.write.ensures.writes c.write.ensures.err in
    let keeps = wrote_keep g.S.Texts.tells g.B.Beginning.begun (g.S.Texts.world c.is_barred.new.self.site) (g.S.Texts.world c.write.new.self) c.calls_note.ensures c.calls_stand.ensures c.args.path.now (λ tells. (c.is_barred.ensures.told tells c.if-is_barred.false).0) c.args.content.now c.write.result c.write.ensures.writes c.write.ensures.err in
    record {
      one = c.is_barred.new.self.one;
      begun = c.is_barred.new.self.begun;
      counted = c.is_barred.new.self.counted;
      hidden = c.is_barred.new.self.hidden;
      makes = c.is_barred.new.self.makes;
      room = c.is_barred.new.self.room;
      begins = c.is_barred.new.self.begins;
      so_far = stays.so_far;
      started = λ is p. stays.started is p ∙ c.is_barred.new.self.started is p;
      numbers = c.is_barred.new.self.numbers;
      owns = c.is_barred.new.self.owns;
      here = c.is_barred.new.self.here;
      stand = keeps.stand c.is_barred.new.self.stand;
      kept = λ whole. keeps.notes _ _ (c.is_barred.new.self.kept whole);
    }

pub returns-clause-writes : goal.returns-clause-writes
returns-clause-writes g c =
    subst (λ (w : World). OnOk c.write.result (Writes g.S.Texts.tells c.args.path.now (Some c.args.content.now) (told_world g.S.Texts.tells g.B.Beginning.begun w) (told_world g.S.Texts.tells g.B.Beginning.begun (g.S.Texts.world c.write.new.self)))) (ap g.S.Texts.world c.is_barred.ensures.site)
    (ok_on c.write.result (writes_on g.S.Texts.tells g.B.Beginning.begun (g.S.Texts.world c.is_barred.new.self.site) (g.S.Texts.world c.write.new.self) c.is_barred.new.self.so_far c.is_barred.new.self.begins c.writes_are_told.ensures c.args.path.now c.args.content.now (λ tells. c.is_barred.ensures.told tells c.if-is_barred.false)) c.write.ensures.writes)

pub returns-clause-err : goal.returns-clause-err
returns-clause-err g c =
    subst (λ (w : World). OnErr c.write.result (SpoilsOrNot g.S.Texts.tells c.args.path.now (told_world g.S.Texts.tells g.B.Beginning.begun w) (told_world g.S.Texts.tells g.B.Beginning.begun (g.S.Texts.world c.write.new.self)))) (ap g.S.Texts.world c.is_barred.ensures.site)
    (err_on c.write.result (spoils_or_not_on g.S.Texts.tells g.B.Beginning.begun (g.S.Texts.world c.is_barred.new.self.site) (g.S.Texts.world c.write.new.self) c.is_barred.new.self.so_far c.is_barred.new.self.begins c.writes_are_told.ensures c.looks_are_told.ensures c.args.path.now (λ tells. c.is_barred.ensures.told tells c.if-is_barred.false)) c.write.ensures.err)
