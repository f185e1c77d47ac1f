use Rattle.std.proofs.Common.{subst}
use Rattle.seen.specs.declared.own.Own.{Own}
use Rattle.seen.specs.Noting.{PutsLines}
use Rattle.seen.specs.Begun.{told_world}
use Rattle.seen.proofs.Answered.{asks_both, asks_fault}
use Rattle.seen.proofs.Putting.{first_noted}
use Rattle.seen.proofs.seen.Seen.note_before.Goals as goal

pub returns-clause-notes : goal.returns-clause-notes
returns-clause-notes g c =
    first_noted g.S.Texts.tells g.B.Beginning.begun c.args.self.now.retold.known.own.seen c.args.self.now.retold.noted.lines.items c.ask_for.new.self.retold.noted.lines.items (g.S.Texts.world c.args.self.now.retold.site)
    (g.S.Texts.world c.ask_for.new.self.retold.site) (g.S.Texts.world c.put_lines.new.self.site) c.in_ok-ask_for.ensures.asks.looks c.in_ok-ask_for.ensures.grows
    (subst (λ (o : Own). PutsLines g.S.Texts.tells o.seen c.ask_for.new.self.retold.noted.lines.items (g.S.Texts.world c.ask_for.new.self.retold.site) (g.S.Texts.world c.put_lines.new.self.site)) c.in_ok-ask_for.ensures.own c.in_ok-put_lines.ensures.puts)

pub returns-in_err-put_lines-clause-asks : goal.returns-in_err-put_lines-clause-asks
returns-in_err-put_lines-clause-asks g c =
    asks_fault g.S.Texts.tells (told_world g.S.Texts.tells g.B.Beginning.begun (g.S.Texts.world c.args.self.now.retold.site)) (told_world g.S.Texts.tells g.B.Beginning.begun (g.S.Texts.world c.ask_for.new.self.retold.site)) (told_world g.S.Texts.tells g.B.Beginning.begun (g.S.Texts.world c.put_lines.new.self.site)) c.in_ok-ask_for.field-0 c.in_err-put_lines.field-0.0 c.from_residual-in_err-put_lines.result c.in_ok-ask_for.ensures.asks
    c.in_err-put_lines.ensures.asks c.from_residual-in_err-put_lines.ensures.1

pub returns-clause-asks : goal.returns-clause-asks
returns-clause-asks g c =
    asks_both g.S.Texts.tells (told_world g.S.Texts.tells g.B.Beginning.begun (g.S.Texts.world c.args.self.now.retold.site)) (told_world g.S.Texts.tells g.B.Beginning.begun (g.S.Texts.world c.ask_for.new.self.retold.site)) (told_world g.S.Texts.tells g.B.Beginning.begun (g.S.Texts.world c.put_lines.new.self.site)) c.in_ok-ask_for.field-0 c.in_ok-put_lines.field-0 tt c.in_ok-ask_for.ensures.asks c.in_ok-put_lines.ensures.asks
