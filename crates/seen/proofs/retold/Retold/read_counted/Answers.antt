use Rattle.std.proofs.Common.{◌∙◌, sym, ap, subst, Option}
use Rattle.std.specs.Prelude.{List, ℕ}
use Rattle.model.specs.Calls.{Sees}
use Rattle.model.specs.World.{content_of, file_at}
use Rattle.seen_true.specs.Going.{since}
use Rattle.seen_true.specs.Counting.{telling}
use Rattle.seen_law.specs.Laws.{told_then}
use Rattle.seen.specs.Looking.{looked_by}
use Rattle.seen.proofs.Seeing.{counted_same, hidden_same, makes_same, room_same, started_same}
use Rattle.seen.proofs.Looks.{content_on, content_seen}
use Rattle.seen.proofs.Kept.{here_same, looks_keep, numbers_same, owns_same}
use Rattle.seen.proofs.Since.{looks_stay}
use Rattle.seen.proofs.Told.{looks_on}
use Rattle.seen.proofs.retold.Retold.read_counted.Goals as goal

pub invariant_of-self : goal.invariant_of-self
invariant_of-self g c =
    let stays = looks_stay g.S.Texts.tells g.B.Beginning.begun (g.S.Texts.world c.args.self.now.site) (g.S.Texts.world c.read_measured.new.self) c.args.self.now.so_far c.read_measured.ensures.looks in
    let keeps = looks_keep g.S.Texts.tells g.B.Beginning.begun (g.S.Texts.world c.args.self.now.site) (g.S.Texts.world c.read_measured.new.self) c.calls_note.ensures c.calls_stand.ensures c.read_measured.ensures.looks in
    record {
      one = c.args.self.now.one;
      begun = c.args.self.now.begun;
      counted = c.args.self.now.counted;
      hidden = c.args.self.now.hidden;
      makes = c.args.self.now.makes;
      room = c.args.self.now.room;
      begins = c.args.self.now.begins;
      so_far = stays.so_far;
      started = λ is p. stays.started is p ∙ c.args.self.now.started is p;
      numbers = c.args.self.now.numbers;
      owns = c.args.self.now.owns;
      here = c.args.self.now.here;
      stand = keeps.stand c.args.self.now.stand;
      kept = λ whole. keeps.notes _ _ (c.args.self.now.kept whole);
    }

pub returns-in_err-found-clause-looks : goal.returns-in_err-found-clause-looks
returns-in_err-found-clause-looks g c = looks_on g.S.Texts.tells g.B.Beginning.begun (g.S.Texts.world c.args.self.now.site) (g.S.Texts.world c.read_measured.new.self) c.args.self.now.so_far c.args.self.now.begins c.looks_are_told.ensures c.read_measured.ensures.looks

pub invariant_of-self-2 : goal.invariant_of-self-2
invariant_of-self-2 g c =
    let stays = looks_stay g.S.Texts.tells g.B.Beginning.begun (g.S.Texts.world c.args.self.now.site) (g.S.Texts.world c.read_measured.new.self) c.args.self.now.so_far c.read_measured.ensures.looks in
    let keeps = looks_keep g.S.Texts.tells g.B.Beginning.begun (g.S.Texts.world c.args.self.now.site) (g.S.Texts.world c.read_measured.new.self) c.calls_note.ensures c.calls_stand.ensures c.read_measured.ensures.looks in
    record {
      one = c.args.self.now.one;
      begun = c.args.self.now.begun;
      counted = λ is. counted_same g.B.Beginning.begun c.args.self.now.known c.look_by.new.self c.look_by.ensures.same (c.args.self.now.counted is);
      hidden = λ is. hidden_same g.B.Beginning.begun c.args.self.now.known c.look_by.new.self c.look_by.ensures.same (c.args.self.now.hidden is);
      makes = λ is. makes_same g.B.Beginning.begun c.args.self.now.known c.look_by.new.self c.look_by.ensures.same (c.args.self.now.makes is);
      room = λ is. room_same g.B.Beginning.begun c.args.self.now.known c.look_by.new.self c.look_by.ensures.same (c.args.self.now.room is);
      begins = c.args.self.now.begins;
      so_far = stays.so_far;
      started = λ is p. stays.started is p ∙ (c.args.self.now.started is p ∙ started_same g.B.Beginning.begun c.args.self.now.known c.look_by.new.self c.look_by.ensures.same p);
      numbers = λ is. numbers_same g.B.Beginning.begun c.args.self.now.known c.look_by.new.self c.look_by.ensures.same (c.args.self.now.numbers is);
      owns = λ is. owns_same g.B.Beginning.begun c.args.self.now.known c.look_by.new.self c.look_by.ensures.same.own (c.args.self.now.owns is);
      here = λ is. here_same g.B.Beginning.begun c.args.self.now.known c.look_by.new.self c.look_by.ensures.same.own (c.args.self.now.here is);
      stand = keeps.stand c.args.self.now.stand;
      kept = λ whole. keeps.notes _ _ (c.args.self.now.kept whole);
    }

pub returns-in_err-looked-clause-looks : goal.returns-in_err-looked-clause-looks
returns-in_err-looked-clause-looks g c = looks_on g.S.Texts.tells g.B.Beginning.begun (g.S.Texts.world c.args.self.now.site) (g.S.Texts.world c.read_measured.new.self) c.args.self.now.so_far c.args.self.now.begins c.looks_are_told.ensures c.read_measured.ensures.looks

pub returns-clause-looks : goal.returns-clause-looks
returns-clause-looks g c = looks_on g.S.Texts.tells g.B.Beginning.begun (g.S.Texts.world c.args.self.now.site) (g.S.Texts.world c.read_measured.new.self) c.args.self.now.so_far c.args.self.now.begins c.looks_are_told.ensures c.read_measured.ensures.looks

pub returns-clause-content : goal.returns-clause-content
returns-clause-content g c = content_on g.S.Texts.tells g.B.Beginning.begun (g.S.Texts.world c.args.self.now.site) (g.S.Texts.world c.read_measured.new.self) c.args.self.now.so_far c.args.self.now.begins c.answers_are_told.ensures c.read_measured.ensures.looks c.args.path.now c.content_counted.result
    (λ is. subst (λ (o : Option (List ℕ)). Sees (λ history. content_of (told_then (telling g.B.Beginning.begun.knows) (since g.B.Beginning.begun (g.S.Texts.world c.args.self.now.site)) c.args.path.now (file_at history c.args.path.now))) o (g.S.Texts.world c.args.self.now.site).history (g.S.Texts.world c.read_measured.new.self).history) (sym c.content_counted.ensures)
    (content_seen g.B.Beginning.begun c.args.self.now.known (g.S.Texts.world c.args.self.now.site) (g.S.Texts.world c.read_measured.new.self) c.args.path.now (c.args.self.now.counted is c.args.path.now) (c.args.self.now.started is c.args.path.now) c.args.self.now.is_begun c.in_ok-found.found c.in_ok-looked.looked
    (c.args.self.now.begun (c.args.self.now.one is)) (c.in_ok-looked.ensures.looked ∙ ap (looked_by c.args.self.now.is_begun c.args.self.now.known c.args.path.now) c.measure_in.ensures) (c.in_ok-found.ensures.content is)))
