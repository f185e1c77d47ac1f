use Rattle.std.proofs.Common.{◌∙◌, sym}
use Rattle.seen.proofs.Seeing.{counted_same, hidden_same, makes_same, room_same, started_same}
use Rattle.seen.proofs.Looks.{looked_is, stamp_on, stamp_seen}
use Rattle.seen.proofs.Kept.{here_same, looks_keep, may_leave, may_see, numbers_same, owns_same}
use Rattle.seen.proofs.Since.{looks_stay}
use Rattle.seen.proofs.Told.{looks_on}
use Rattle.seen.proofs.retold.Retold.look.Goals as goal

pub invariant_of-self : goal.invariant_of-self
invariant_of-self g c =
    let stays = looks_stay g.S.Texts.tells g.B.Beginning.begun (g.S.Texts.world c.args.self.now.site) (g.S.Texts.world c.measure.new.self) c.args.self.now.so_far c.measure.ensures.looks in
    let keeps = looks_keep g.S.Texts.tells g.B.Beginning.begun (g.S.Texts.world c.args.self.now.site) (g.S.Texts.world c.measure.new.self) c.calls_note.ensures c.calls_stand.ensures c.measure.ensures.looks in
    record {
      one = c.args.self.now.one;
      begun = c.args.self.now.begun;
      counted = c.args.self.now.counted;
      hidden = c.args.self.now.hidden;
      makes = c.args.self.now.makes;
      room = c.args.self.now.room;
      begins = c.args.self.now.begins;
      so_far = stays.so_far;
      started = λ is p. stays.started is p ∙ c.args.self.now.started is p;
      numbers = c.args.self.now.numbers;
      owns = c.args.self.now.owns;
      here = c.args.self.now.here;
      stand = keeps.stand c.args.self.now.stand;
      kept = λ whole. keeps.notes _ _ (c.args.self.now.kept whole);
    }

pub returns-in_err-found-clause-looks : goal.returns-in_err-found-clause-looks
returns-in_err-found-clause-looks g c = looks_on g.S.Texts.tells g.B.Beginning.begun (g.S.Texts.world c.args.self.now.site) (g.S.Texts.world c.measure.new.self) c.args.self.now.so_far c.args.self.now.begins c.looks_are_told.ensures c.measure.ensures.looks

pub invariant_of-self-2 : goal.invariant_of-self-2
invariant_of-self-2 g c =
    let stays = looks_stay g.S.Texts.tells g.B.Beginning.begun (g.S.Texts.world c.args.self.now.site) (g.S.Texts.world c.measure.new.self) c.args.self.now.so_far c.measure.ensures.looks in
    let keeps = looks_keep g.S.Texts.tells g.B.Beginning.begun (g.S.Texts.world c.args.self.now.site) (g.S.Texts.world c.measure.new.self) c.calls_note.ensures c.calls_stand.ensures c.measure.ensures.looks in
    record {
      one = c.args.self.now.one;
      begun = c.args.self.now.begun;
      counted = λ is. counted_same g.B.Beginning.begun c.args.self.now.known c.look_by.new.self c.look_by.ensures.same (c.args.self.now.counted is);
      hidden = λ is. hidden_same g.B.Beginning.begun c.args.self.now.known c.look_by.new.self c.look_by.ensures.same (c.args.self.now.hidden is);
      makes = λ is. makes_same g.B.Beginning.begun c.args.self.now.known c.look_by.new.self c.look_by.ensures.same (c.args.self.now.makes is);
      room = λ is. room_same g.B.Beginning.begun c.args.self.now.known c.look_by.new.self c.look_by.ensures.same (c.args.self.now.room is);
      begins = c.args.self.now.begins;
      so_far = stays.so_far;
      started = λ is p. stays.started is p ∙ (c.args.self.now.started is p ∙ started_same g.B.Beginning.begun c.args.self.now.known c.look_by.new.self c.look_by.ensures.same p);
      numbers = λ is. numbers_same g.B.Beginning.begun c.args.self.now.known c.look_by.new.self c.look_by.ensures.same (c.args.self.now.numbers is);
      owns = λ is. owns_same g.B.Beginning.begun c.args.self.now.known c.look_by.new.self c.look_by.ensures.same.own (c.args.self.now.owns is);
      here = λ is. here_same g.B.Beginning.begun c.args.self.now.known c.look_by.new.self c.look_by.ensures.same.own (c.args.self.now.here is);
      stand = keeps.stand c.args.self.now.stand;
      kept = λ whole. keeps.notes _ _ (c.args.self.now.kept whole);
    }

pub returns-in_err-look_by-clause-looks : goal.returns-in_err-look_by-clause-looks
returns-in_err-look_by-clause-looks g c = looks_on g.S.Texts.tells g.B.Beginning.begun (g.S.Texts.world c.args.self.now.site) (g.S.Texts.world c.measure.new.self) c.args.self.now.so_far c.args.self.now.begins c.looks_are_told.ensures c.measure.ensures.looks

pub returns-clause-looks : goal.returns-clause-looks
returns-clause-looks g c = looks_on g.S.Texts.tells g.B.Beginning.begun (g.S.Texts.world c.args.self.now.site) (g.S.Texts.world c.measure.new.self) c.args.self.now.so_far c.args.self.now.begins c.looks_are_told.ensures c.measure.ensures.looks

pub returns-clause-looked : goal.returns-clause-looked
returns-clause-looked g c = looked_is c.args.self.now.is_begun c.args.self.now.known c.args.path.now c.in_ok-found.found c.in_ok-look_by.field-0 c.in_ok-look_by.ensures.looked

pub returns-clause-stamp : goal.returns-clause-stamp
returns-clause-stamp g c = stamp_on g.S.Texts.tells g.B.Beginning.begun (g.S.Texts.world c.args.self.now.site) (g.S.Texts.world c.measure.new.self) c.args.self.now.so_far c.args.self.now.begins c.answers_are_told.ensures c.measure.ensures.looks c.args.path.now c.in_ok-look_by.field-0.counts
    (λ is. stamp_seen g.B.Beginning.begun c.args.self.now.known (g.S.Texts.world c.args.self.now.site) (g.S.Texts.world c.measure.new.self) c.args.path.now (c.args.self.now.counted is c.args.path.now) (c.args.self.now.started is c.args.path.now) c.args.self.now.is_begun c.in_ok-found.found c.in_ok-look_by.field-0
    (c.args.self.now.begun (c.args.self.now.one is)) c.in_ok-look_by.ensures.looked (c.in_ok-found.ensures.measure is))

pub returns-clause-see : goal.returns-clause-see
returns-clause-see g c =
    let stays = looks_stay g.S.Texts.tells g.B.Beginning.begun (g.S.Texts.world c.args.self.now.site) (g.S.Texts.world c.measure.new.self) c.args.self.now.so_far c.measure.ensures.looks in
    may_see c.found_in_call.ensures c.none_in_call.ensures c.lines_note.ensures c.absence_notes.ensures g.B.Beginning.begun (g.S.Texts.world c.args.self.now.site) (g.S.Texts.world c.measure.new.self) c.args.self.now.known c.args.path.now
    g.S.Texts.tells c.args.self.now.is_begun c.in_ok-found.found c.in_ok-look_by.field-0 (record {
      goes = c.args.self.now.so_far;
      sees = c.in_ok-found.ensures.measure;
      is = c.in_ok-look_by.ensures.looked;
      has_begun = λ is. c.args.self.now.begun (c.args.self.now.one is);
      numbers = c.args.self.now.numbers;
      owns = λ is. c.args.self.now.owns is c.args.path.now;
      counted = λ is. c.args.self.now.counted is c.args.path.now;
      started = λ is. stays.started is c.args.path.now ∙ c.args.self.now.started is c.args.path.now;
    })

pub returns-clause-leave : goal.returns-clause-leave
returns-clause-leave g c =
    let stays = looks_stay g.S.Texts.tells g.B.Beginning.begun (g.S.Texts.world c.args.self.now.site) (g.S.Texts.world c.measure.new.self) c.args.self.now.so_far c.measure.ensures.looks in
    may_leave c.found_in_call.ensures c.none_in_call.ensures c.lines_note.ensures c.absence_notes.ensures g.B.Beginning.begun (g.S.Texts.world c.args.self.now.site) (g.S.Texts.world c.measure.new.self) c.args.self.now.known c.args.path.now
    g.S.Texts.tells c.args.self.now.is_begun c.in_ok-found.found c.in_ok-look_by.field-0 (record {
      goes = c.args.self.now.so_far;
      sees = c.in_ok-found.ensures.measure;
      is = c.in_ok-look_by.ensures.looked;
      has_begun = λ is. c.args.self.now.begun (c.args.self.now.one is);
      numbers = c.args.self.now.numbers;
      owns = λ is. c.args.self.now.owns is c.args.path.now;
      counted = λ is. c.args.self.now.counted is c.args.path.now;
      started = λ is. stays.started is c.args.path.now ∙ c.args.self.now.started is c.args.path.now;
    })
