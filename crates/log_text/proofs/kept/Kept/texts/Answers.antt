use Rattle.std.proofs.Common.{map, ap, ◌∙◌}
use Rattle.std.proofs.lemmas.List.{take_all}
use Rattle.log_text.specs.Kept.{texts_at}
use Rattle.log_text.proofs.Lookups.{texts_next}
use Rattle.log_text.proofs.kept.Kept.texts.Goals as goal

pub loop-number-preserved : goal.loop-number-preserved
loop-number-preserved g c = texts_next c.args.self.now.outputs c.args.numbers.now c.loop-number.number-index (map (λ o. o.now) c.loop-number.texts.items) (map (λ o. o.now) c.push_text.new.texts.items) c.loop-number-test.true c.loop-number.invariant c.in_ok-push_text.ensures

pub returns : goal.returns
returns g c = c.loop-number.invariant ∙ ap (texts_at c.args.self.now.outputs) (take_all c.loop-number.number-index c.args.numbers.now c.loop-number-test.false)
