use Rattle.std.proofs.Common.{◌∙◌, sym, arith}
use Rattle.graph.proofs.Naming.{given_next, first_read, none_without}
use Rattle.graph.proofs.graph.Graph.first_lacking.Goals as goal

pub loop-choice-init : goal.loop-choice-init
loop-choice-init c j low = absurd (omega (arith, low))

pub returns-then-not-is_given : goal.returns-then-not-is_given
returns-then-not-is_given c =
    first_read c.args.self.now c.args.file c.args.chosen.now c.requires c.loop-choice.choice-index c.choice-item.result c.loop-choice-test.true c.choice-item.is (sym c.is_given.ensures ∙ c.if-not-is_given.true) c.loop-choice.invariant

pub loop-choice-preserved : goal.loop-choice-preserved
loop-choice-preserved c = given_next c.args.chosen.now c.loop-choice.choice-index c.choice-item.result c.loop-choice-test.true c.choice-item.is (sym c.is_given.ensures ∙ c.if-not-is_given.false) c.loop-choice.invariant

pub returns : goal.returns
returns c = none_without c.args.self.now c.args.file c.args.chosen.now c.requires (λ j low. let past = c.loop-choice-test.false in c.loop-choice.invariant j (omega (arith, low, past)))
