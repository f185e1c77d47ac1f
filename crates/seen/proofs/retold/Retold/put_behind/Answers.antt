use Rattle.std.proofs.Common.{◌∙◌, subst, sym, List, ℕ}
use Rattle.std.specs.Prelude.{OnErr, OnOk}
use Rattle.std.proofs.lemmas.Bool.{false≢true}
use Rattle.model.specs.Calls.{Appends, AppendsOrNot}
use Rattle.seen.proofs.Kept.{put_notes, put_stand}
use Rattle.seen.proofs.Since.{appended}
use Rattle.seen.proofs.Told.{hidden_appended, own_bytes}
use Rattle.seen.proofs.retold.Retold.put_behind.Goals as goal

-- nothing else is known
pub invariant_of-self : goal.invariant_of-self
invariant_of-self g c =
    let stays = appended g.S.Texts.tells g.B.Beginning.begun (g.S.Texts.world c.args.self.now.site) (g.S.Texts.world c.append.new.self) c.args.self.now.so_far c.as_str.result.now c.as_slice.result.now c.append.result c.append.ensures.appends c.append.ensures.err in
    record {
      one = c.args.self.now.one;
      begun = c.args.self.now.begun;
      counted = c.args.self.now.counted;
      hidden = c.args.self.now.hidden;
      makes = c.args.self.now.makes;
      room = c.args.self.now.room;
      begins = c.args.self.now.begins;
      so_far = stays.so_far;
      started = λ is p. stays.started is p ∙ c.args.self.now.started is p;
      numbers = c.args.self.now.numbers;
      owns = c.args.self.now.owns;
      here = c.args.self.now.here;
      stand = put_stand g.S.Texts.tells g.B.Beginning.begun (g.S.Texts.world c.args.self.now.site) (g.S.Texts.world c.append.new.self) c.note_calls_note.ensures c.as_str.result.now (λ is. c.args.self.now.here is ∙ sym c.as_str.ensures) c.args.self.now.noted.lines.items c.requires.notes c.append.result
          (subst (λ (l : List ℕ). OnOk c.append.result (Appends g.S.Texts.tells c.as_str.result.now l (g.S.Texts.world c.args.self.now.site) (g.S.Texts.world c.append.new.self))) c.as_slice.ensures.value c.append.ensures.appends)
          (subst (λ (l : List ℕ). OnErr c.append.result (AppendsOrNot g.S.Texts.tells c.as_str.result.now l (g.S.Texts.world c.args.self.now.site) (g.S.Texts.world c.append.new.self))) c.as_slice.ensures.value c.append.ensures.err);
      kept = λ whole. absurd (false≢true (sym whole ∙ c.requires.torn));
    }

pub returns-clause-looks : goal.returns-clause-looks
returns-clause-looks g c = hidden_appended g.S.Texts.tells g.B.Beginning.begun (g.S.Texts.world c.args.self.now.site) (g.S.Texts.world c.append.new.self) c.args.self.now.so_far c.args.self.now.begins c.looks_are_told.ensures c.as_str.result.now c.as_slice.result.now (λ is. c.args.self.now.hidden is c.as_str.result.now ∙ own_bytes c.args.self.now.known.own.seen c.as_str.result.now c.as_str.ensures)
    c.append.result c.append.ensures.appends c.append.ensures.err

pub returns-clause-notes : goal.returns-clause-notes
returns-clause-notes g c =
    put_notes g.S.Texts.tells g.B.Beginning.begun (g.S.Texts.world c.args.self.now.site) (g.S.Texts.world c.append.new.self) c.note_calls_note.ensures c.as_str.result.now (λ is. c.args.self.now.here is ∙ sym c.as_str.ensures) c.args.self.now.noted.lines.items c.requires.notes c.append.result
    (subst (λ (l : List ℕ). OnOk c.append.result (Appends g.S.Texts.tells c.as_str.result.now l (g.S.Texts.world c.args.self.now.site) (g.S.Texts.world c.append.new.self))) c.as_slice.ensures.value c.append.ensures.appends)
