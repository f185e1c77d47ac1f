use Rattle.std.proofs.Common.{◌∙◌, sym, ap, length}
use Rattle.seen.proofs.Kept.{here_same, numbers_start, owns_same, started_keep}
use Rattle.seen.proofs.Starting.{counted_kept, hidden_kept, makes_kept, room_kept, start_kept}
use Rattle.seen.proofs.Told.{err_on, ok_on, starts_on, starts_or_not_on}
use Rattle.seen.proofs.retold.RetoldSite.start.Goals as goal

pub invariant_of-self : goal.invariant_of-self
invariant_of-self g c =
    let kept = start_kept g.S.Texts.tells g.B.Beginning.begun (g.S.Texts.world c.args.self.now.site) (g.S.Texts.world c.start-done.new.self) c.args.self.now.known c.start.new.self c.args.job c.args.act.now c.started_since-start.result c.args.self.now.so_far c.start.ensures c.args.self.now.makes c.args.self.now.room c.args.self.now.started c.events.result.now (length c.events-before.result.now) (ap length c.events-before.ensures) c.events.ensures c.start-done.ensures.cause.earlier c.started_since-start.ensures
    c.start-done.result c.start-done.ensures.starts c.start-done.ensures.err in
    let keeps = started_keep g.S.Texts.tells g.B.Beginning.begun (g.S.Texts.world c.args.self.now.site) (g.S.Texts.world c.start-done.new.self) c.calls_note.ensures c.calls_stand.ensures c.args.job c.args.act.now c.start-done.result c.start-done.ensures.starts c.start-done.ensures.err in
    record {
      one = c.args.self.now.one;
      begun = c.args.self.now.begun;
      counted = counted_kept g.S.Texts.tells g.B.Beginning.begun (g.S.Texts.world c.args.self.now.site) (g.S.Texts.world c.start-done.new.self) c.args.self.now.known c.start.new.self c.args.job c.args.act.now c.started_since-start.result c.args.self.now.so_far c.start.ensures c.args.self.now.makes c.args.self.now.room c.args.self.now.started c.args.self.now.counted;
      hidden = hidden_kept g.S.Texts.tells g.B.Beginning.begun (g.S.Texts.world c.args.self.now.site) (g.S.Texts.world c.start-done.new.self) c.args.self.now.known c.start.new.self c.args.job c.args.act.now c.started_since-start.result c.args.self.now.so_far c.start.ensures c.args.self.now.makes c.args.self.now.room c.args.self.now.started c.args.self.now.hidden;
      makes = makes_kept g.S.Texts.tells g.B.Beginning.begun (g.S.Texts.world c.args.self.now.site) (g.S.Texts.world c.start-done.new.self) c.args.self.now.known c.start.new.self c.args.job c.args.act.now c.started_since-start.result c.args.self.now.so_far c.start.ensures c.args.self.now.makes c.args.self.now.room c.args.self.now.started;
      room = room_kept g.S.Texts.tells g.B.Beginning.begun (g.S.Texts.world c.args.self.now.site) (g.S.Texts.world c.start-done.new.self) c.args.self.now.known c.start.new.self c.args.job c.args.act.now c.started_since-start.result c.args.self.now.so_far c.start.ensures c.args.self.now.makes c.args.self.now.room c.args.self.now.started;
      begins = c.args.self.now.begins;
      so_far = kept.0;
      started = kept.1;
      numbers = λ is. numbers_start g.B.Beginning.begun c.args.self.now.known c.start.new.self c.args.job c.started_since-start.result c.start.ensures (c.args.self.now.numbers is);
      owns = λ is. owns_same g.B.Beginning.begun c.args.self.now.known c.start.new.self c.start.ensures.own (c.args.self.now.owns is);
      here = λ is. here_same g.B.Beginning.begun c.args.self.now.known c.start.new.self c.start.ensures.own (c.args.self.now.here is);
      stand = keeps.stand c.args.self.now.stand;
      kept = λ whole. keeps.notes _ _ (c.args.self.now.kept whole);
    }

pub returns-clause-starts : goal.returns-clause-starts
returns-clause-starts g c = ok_on c.start-done.result (starts_on g.S.Texts.tells g.B.Beginning.begun (g.S.Texts.world c.args.self.now.site) (g.S.Texts.world c.start-done.new.self) c.args.self.now.so_far c.args.self.now.begins c.events_are_told.ensures c.args.job c.args.act.now) c.start-done.ensures.starts

pub returns-clause-err : goal.returns-clause-err
returns-clause-err g c = err_on c.start-done.result (starts_or_not_on g.S.Texts.tells g.B.Beginning.begun (g.S.Texts.world c.args.self.now.site) (g.S.Texts.world c.start-done.new.self) c.args.self.now.so_far c.args.self.now.begins c.events_are_told.ensures c.looks_are_told.ensures c.args.job c.args.act.now) c.start-done.ensures.err
