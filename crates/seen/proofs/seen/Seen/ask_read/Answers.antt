use Rattle.std.proofs.Common.{ap, ◌∙◌}
use Rattle.seen.specs.Begun.{told_world}
use Rattle.seen.proofs.Answered.{asks_both, asks_fault}
use Rattle.seen.proofs.Growing.{grows_then}
use Rattle.seen.proofs.seen.Seen.ask_read.Goals as goal

pub returns-in_err-ask_once-clause-asks : goal.returns-in_err-ask_once-clause-asks
returns-in_err-ask_once-clause-asks g c =
    asks_fault g.S.Texts.tells (told_world g.S.Texts.tells g.B.Beginning.begun (g.S.Texts.world c.args.self.now.retold.site)) (told_world g.S.Texts.tells g.B.Beginning.begun (g.S.Texts.world c.loop-path.self.retold.site)) (told_world g.S.Texts.tells g.B.Beginning.begun (g.S.Texts.world c.ask_once.new.self.retold.site)) 0 c.in_err-ask_once.field-0.0 c.from_residual.result c.loop-path.invariant.asks c.in_err-ask_once.ensures.asks
    c.from_residual.ensures.1

pub loop-path-preserved : goal.loop-path-preserved
loop-path-preserved g c = record {
  asks = asks_both g.S.Texts.tells (told_world g.S.Texts.tells g.B.Beginning.begun (g.S.Texts.world c.args.self.now.retold.site)) (told_world g.S.Texts.tells g.B.Beginning.begun (g.S.Texts.world c.loop-path.self.retold.site)) (told_world g.S.Texts.tells g.B.Beginning.begun (g.S.Texts.world c.ask_once.new.self.retold.site)) 0 c.in_ok-ask_once.field-0 0 c.loop-path.invariant.asks c.in_ok-ask_once.ensures.asks;
  grows = grows_then c.args.self.now.retold.noted.lines.items c.loop-path.self.retold.noted.lines.items c.ask_once.new.self.retold.noted.lines.items c.loop-path.invariant.grows c.in_ok-ask_once.ensures.grows;
  own = c.in_ok-ask_once.ensures.own ∙ c.loop-path.invariant.own;
}
