use Rattle.std.proofs.Common.{◌<◌, ℕ, List, map, length, sym, subst, arith}
use Rattle.std.proofs.lemmas.List.{take_all}
use Rattle.judge.specs.Summaries.{AreOutputs, TakesOutput}
use Rattle.reasons.specs.Why.{seen_output}
use Rattle.reasons.proofs.Firsts.{at_has}
use Rattle.reasons.proofs.Taking.{taken_more}
use Rattle.reasons.proofs.outputs.summary_of.Goals as goal

pub loop-output-init : goal.loop-output-init
loop-output-init c paths rs ds of told within = c.new-summary.ensures c.args.act.now

pub loop-output-preserved : goal.loop-output-preserved
loop-output-preserved c paths rs ds of told within =
    let outputs = c.args.outputs.now in
    let place = c.loop-output.output-index in
    let seen = c.args.looks.now.seen.items in
    let act = c.args.act.now in
    let low : c.output-item.result < length paths = subst (λ (p : ℕ). p < length paths) (sym {A = ℕ} c.output-item.is) (within _ (at_has outputs place c.output-item.result c.loop-output-test.true)) in
    taken_more act (seen_output paths rs ds seen) outputs place c.output-item.result c.loop-output-test.true c.loop-output.summary c.add_output.new.summary
    (subst (λ (p : ℕ). TakesOutput act (seen_output paths rs ds seen p) c.loop-output.summary c.add_output.new.summary) c.output-item.is (c.add_output.ensures paths rs ds of told low))
    (c.loop-output.invariant paths rs ds of told within)

pub returns : goal.returns
returns c paths rs ds of told within =
    subst (λ (l : List ℕ). AreOutputs c.args.act.now (map (seen_output paths rs ds c.args.looks.now.seen.items) l) c.loop-output.summary)
    (take_all c.loop-output.output-index c.args.outputs.now (omega arith)) (c.loop-output.invariant paths rs ds of told within)
