use Rattle.std.proofs.Common.{rules, refl, length, ◌≤◌, ◌∙◌}
use Rattle.sim.specs.Faults.{after_call}
use Rattle.sim.proofs.Counts.{changed_all, changed_next}
use Rattle.sim.proofs.faults.count.Goals as goal

pub loop-at-init : goal.loop-at-init
loop-at-init c = refl

pub loop-at-preserved : goal.loop-at-preserved
loop-at-preserved c = changed_next (after_call c.args.call) c.loop-at.at c.args.named.now.items c.loop-at.named.items c.index-one.result.now c.after_call.result c.loop-at.invariant c.index-one.ensures c.after_call.ensures

pub returns : goal.returns
returns c =
    let all : length c.args.named.now.items ≤ c.loop-at.at = search rules in
    c.loop-at.invariant ∙ changed_all (after_call c.args.call) c.loop-at.at c.args.named.now.items all
