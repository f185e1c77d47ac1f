use Rattle.std.proofs.Common.{ap, ◌∙◌}
use Rattle.seen.specs.Begun.{told_world}
use Rattle.seen.proofs.Answered.{asks_both, asks_fault}
use Rattle.seen.proofs.Growing.{grows_then}
use Rattle.seen.proofs.seen.Seen.ask_made.Goals as goal

pub returns-in_err-ask_left-clause-asks : goal.returns-in_err-ask_left-clause-asks
returns-in_err-ask_left-clause-asks g c =
    asks_fault g.S.Texts.tells (told_world g.S.Texts.tells g.B.Beginning.begun (g.S.Texts.world c.args.self.now.retold.site)) (told_world g.S.Texts.tells g.B.Beginning.begun (g.S.Texts.world c.loop-output.self.retold.site)) (told_world g.S.Texts.tells g.B.Beginning.begun (g.S.Texts.world c.ask_left.new.self.retold.site)) 0 c.in_err-ask_left.field-0.0 c.from_residual.result c.loop-output.invariant.asks c.in_err-ask_left.ensures.asks
    c.from_residual.ensures.1

pub loop-output-preserved : goal.loop-output-preserved
loop-output-preserved g c = record {
  asks = asks_both g.S.Texts.tells (told_world g.S.Texts.tells g.B.Beginning.begun (g.S.Texts.world c.args.self.now.retold.site)) (told_world g.S.Texts.tells g.B.Beginning.begun (g.S.Texts.world c.loop-output.self.retold.site)) (told_world g.S.Texts.tells g.B.Beginning.begun (g.S.Texts.world c.ask_left.new.self.retold.site)) 0 c.in_ok-ask_left.field-0 0 c.loop-output.invariant.asks c.in_ok-ask_left.ensures.asks;
  grows = grows_then c.args.self.now.retold.noted.lines.items c.loop-output.self.retold.noted.lines.items c.ask_left.new.self.retold.noted.lines.items c.loop-output.invariant.grows c.in_ok-ask_left.ensures.grows;
  own = c.in_ok-ask_left.ensures.own ∙ c.loop-output.invariant.own;
}
