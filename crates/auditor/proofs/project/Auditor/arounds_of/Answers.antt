use Rattle.std.proofs.Common.{arith}
use Rattle.audit.specs.Seen.{sums_in}
use Rattle.auditor.proofs.Judged.{judged_all, judged_next}
use Rattle.auditor.proofs.project.Auditor.arounds_of.Goals as goal

pub loop-place-preserved : goal.loop-place-preserved
loop-place-preserved c =
    judged_next c.args.self.now.scratch c.args.left.now (sums_in c.args.uses.now).paths c.loop-place.place c.path_at-path.result.now c.loop-place.arounds.items c.push.new.self.items c.around.result
    (omega arith) c.path_at-path.ensures c.around.ensures.scratch c.around.ensures.left c.in_ok-push.ensures.items c.loop-place.invariant

pub returns : goal.returns
returns c =
    judged_all c.args.self.now.scratch c.args.left.now (sums_in c.args.uses.now).paths c.loop-place.place c.loop-place.arounds.items (omega (arith, c.loop-place-test.false)) c.loop-place.invariant
