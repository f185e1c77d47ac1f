use Rattle.std.proofs.Common.{◌∙◌, Err, ap, subst, sym}
use Rattle.model.specs.declared.fault.SiteFault.{SiteFault}
use Rattle.seen.specs.Asking.{Refuses}
use Rattle.seen.specs.Begun.{told_world}
use Rattle.seen.proofs.Kept.{looks_keep}
use Rattle.seen.proofs.Since.{looks_stay}
use Rattle.seen.proofs.Told.{cause_on, looks_on, waits_on}
use Rattle.seen.proofs.Answered.{cause_by}
use Rattle.seen.proofs.retold.Retold.refuse.Goals as goal

-- nothing else is known
pub invariant_of-self : goal.invariant_of-self
invariant_of-self g c =
    let stays = looks_stay g.S.Texts.tells g.B.Beginning.begun (g.S.Texts.world c.args.self.now.site) (g.S.Texts.world c.stat-seen.new.self) c.args.self.now.so_far c.stat-seen.ensures.looks in
    let keeps = looks_keep g.S.Texts.tells g.B.Beginning.begun (g.S.Texts.world c.args.self.now.site) (g.S.Texts.world c.stat-seen.new.self) c.calls_note.ensures c.calls_stand.ensures c.stat-seen.ensures.looks in
    record {
      one = c.args.self.now.one;
      begun = c.args.self.now.begun;
      counted = c.args.self.now.counted;
      hidden = c.args.self.now.hidden;
      makes = c.args.self.now.makes;
      room = c.args.self.now.room;
      begins = c.args.self.now.begins;
      so_far = stays.so_far;
      started = λ is p. stays.started is p ∙ c.args.self.now.started is p;
      numbers = c.args.self.now.numbers;
      owns = c.args.self.now.owns;
      here = c.args.self.now.here;
      stand = keeps.stand c.args.self.now.stand;
      kept = λ whole. keeps.notes _ _ (c.args.self.now.kept whole);
    }

pub returns-clause-refused : goal.returns-clause-refused
returns-clause-refused g c =
    subst (λ (f : SiteFault). Refuses g.S.Texts.tells (told_world g.S.Texts.tells g.B.Beginning.begun (g.S.Texts.world c.args.self.now.site)) (told_world g.S.Texts.tells g.B.Beginning.begun (g.S.Texts.world c.stat-seen.new.self)) f) (sym c.fault_of.ensures)
    (record {
      looks = looks_on g.S.Texts.tells g.B.Beginning.begun (g.S.Texts.world c.args.self.now.site) (g.S.Texts.world c.stat-seen.new.self) c.args.self.now.so_far c.args.self.now.begins c.looks_are_told.ensures c.stat-seen.ensures.looks;
      waits = waits_on g.S.Texts.tells g.B.Beginning.begun (g.S.Texts.world c.args.self.now.site) (g.S.Texts.world c.stat-seen.new.self) c.stat-seen.ensures.waits;
      cause = cause_on g.S.Texts.tells g.B.Beginning.begun (g.S.Texts.world c.args.self.now.site) (g.S.Texts.world c.stat-seen.new.self) _ (cause_by (g.S.Texts.world c.args.self.now.site) (g.S.Texts.world c.stat-seen.new.self) c.stat-seen.result c.stat-seen.ensures.cause);
    })
