use Rattle.std.proofs.Common.{map}
use Rattle.log_text.proofs.Lookups.{left_next, left_all}
use Rattle.log_text.proofs.kept.Kept.texts_in_force.Goals as goal

pub loop-number-preserved : goal.loop-number-preserved
loop-number-preserved g c = λ all os is are. left_next all c.args.self.now c.args.place c.args.outputs.now os c.loop-number.number-index (map (λ o. o.now) c.loop-number.left.items) (map (λ o. o.now) c.push_in_force.new.left.items) is are c.loop-number-test.true (c.loop-number.invariant all os is are) c.in_ok-push_in_force.ensures

pub returns : goal.returns
returns g c = λ all os is are. left_all all c.args.self.now.outputs c.args.place c.args.outputs.now os c.loop-number.number-index (map (λ o. o.now) c.loop-number.left.items) are c.loop-number-test.false (c.loop-number.invariant all os is are)
