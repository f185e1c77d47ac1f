use Rattle.std.proofs.Common.{◌∙◌}
use Rattle.seen.proofs.Kept.{looks_keep}
use Rattle.seen.proofs.Since.{looks_stay}
use Rattle.seen.proofs.Told.{looks_on, ok_on}
use Rattle.seen.proofs.Looks.{content_on, own_seen}
use Rattle.seen.proofs.retold.Retold.read_plain_into.Goals as goal

-- nothing else is known
pub invariant_of-self : goal.invariant_of-self
invariant_of-self g c =
    let stays = looks_stay g.S.Texts.tells g.B.Beginning.begun (g.S.Texts.world c.args.self.now.site) (g.S.Texts.world c.read_into.new.self) c.args.self.now.so_far c.read_into.ensures.looks in
    let keeps = looks_keep g.S.Texts.tells g.B.Beginning.begun (g.S.Texts.world c.args.self.now.site) (g.S.Texts.world c.read_into.new.self) c.calls_note.ensures c.calls_stand.ensures c.read_into.ensures.looks in
    record {
      one = c.args.self.now.one;
      begun = c.args.self.now.begun;
      counted = c.args.self.now.counted;
      hidden = c.args.self.now.hidden;
      makes = c.args.self.now.makes;
      room = c.args.self.now.room;
      begins = c.args.self.now.begins;
      so_far = stays.so_far;
      started = λ is p. stays.started is p ∙ c.args.self.now.started is p;
      numbers = c.args.self.now.numbers;
      owns = c.args.self.now.owns;
      here = c.args.self.now.here;
      stand = keeps.stand c.args.self.now.stand;
      kept = λ whole. keeps.notes _ _ (c.args.self.now.kept whole);
    }

pub returns-clause-looks : goal.returns-clause-looks
returns-clause-looks g c = looks_on g.S.Texts.tells g.B.Beginning.begun (g.S.Texts.world c.args.self.now.site) (g.S.Texts.world c.read_into.new.self) c.args.self.now.so_far c.args.self.now.begins c.looks_are_told.ensures c.read_into.ensures.looks

pub returns-clause-content : goal.returns-clause-content
returns-clause-content g c = ok_on c.read_into.result (λ takes nothing.
    let took = takes nothing in (
      took.0,
      took.1,
      content_on g.S.Texts.tells g.B.Beginning.begun (g.S.Texts.world c.args.self.now.site) (g.S.Texts.world c.read_into.new.self) c.args.self.now.so_far c.args.self.now.begins c.answers_are_told.ensures c.read_into.ensures.looks c.args.path.now took.0
          (λ tells. own_seen g.B.Beginning.begun c.args.self.now.known (g.S.Texts.world c.args.self.now.site) (g.S.Texts.world c.read_into.new.self) c.args.path.now (c.args.self.now.counted tells c.args.path.now) (c.args.self.now.started tells c.args.path.now) took.0 (c.requires tells) (took.2 tells)),
    )) c.read_into.ensures.content
