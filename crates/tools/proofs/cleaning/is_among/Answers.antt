use Rattle.std.proofs.Common.{sym, ◌∙◌}
use Rattle.tools.proofs.Adding.{is_among, not_among}
use Rattle.tools.proofs.cleaning.is_among.Goals as goal

pub returns-then-eq : goal.returns-then-eq
returns-then-eq c = sym (is_among c.args.texts.now c.loop-one.one-index _ c.args.text.now c.loop-one-test.true (sym c.eq.ensures ∙ c.if-eq.true))

pub loop-one-preserved : goal.loop-one-preserved
loop-one-preserved c = not_among c.args.texts.now c.loop-one.one-index _ c.args.text.now c.loop-one-test.true (sym c.eq.ensures ∙ c.if-eq.false) c.loop-one.invariant
