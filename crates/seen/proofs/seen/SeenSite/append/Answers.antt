use Rattle.std.proofs.Common.{◌∙◌, ap}
use Rattle.seen.specs.declared.known.Known.{Known}
use Rattle.seen.proofs.Answered.{appends_err_after, appends_ok_after}
use Rattle.seen.proofs.Putting.{noted_first, ok_always}
use Rattle.seen.specs.Begun.{told_world}
use Rattle.seen.proofs.seen.SeenSite.append.Goals as goal

pub returns-clause-appends : goal.returns-clause-appends
returns-clause-appends g c =
    appends_ok_after g.S.Texts.tells c.args.path.now c.args.bytes.now (told_world g.S.Texts.tells g.B.Beginning.begun (g.S.Texts.world c.args.self.now.retold.site)) (told_world g.S.Texts.tells g.B.Beginning.begun (g.S.Texts.world c.note_before.new.self.retold.site))
    (told_world g.S.Texts.tells g.B.Beginning.begun (g.S.Texts.world c.append.new.self.site)) c.append.result c.in_ok-note_before.ensures.asks.looks c.append.ensures.appends

pub returns-clause-err : goal.returns-clause-err
returns-clause-err g c =
    appends_err_after g.S.Texts.tells c.args.path.now c.args.bytes.now (told_world g.S.Texts.tells g.B.Beginning.begun (g.S.Texts.world c.args.self.now.retold.site)) (told_world g.S.Texts.tells g.B.Beginning.begun (g.S.Texts.world c.note_before.new.self.retold.site))
    (told_world g.S.Texts.tells g.B.Beginning.begun (g.S.Texts.world c.append.new.self.site)) c.append.result c.in_ok-note_before.ensures.asks.looks c.append.ensures.err

pub returns-clause-noted : goal.returns-clause-noted
returns-clause-noted g c =
    noted_first g.S.Texts.tells g.B.Beginning.begun c.args.self.now.retold.known.own.seen c.args.self.now.retold.noted.lines.items c.args.path.now c.args.bytes.now (g.S.Texts.world c.args.self.now.retold.site) (g.S.Texts.world c.note_before.new.self.retold.site)
    (g.S.Texts.world c.append.new.self.site) c.append.result c.in_ok-note_before.ensures.notes c.append.ensures.appends

pub returns-clause-left : goal.returns-clause-left
returns-clause-left g c = ok_always c.append.result (ap (λ (k : Known). k.lines.items) c.append.ensures.noted ∙ c.in_ok-note_before.ensures.left)
