use Rattle.std.proofs.Common.{subst, arith}
use Rattle.scopes.specs.Marks.{IsMarked}
use Rattle.scopes.proofs.Marking.{few_marked, none_taken, all_named}
use Rattle.scopes.proofs.block.few_marks.Goals as goal

pub loop-bound-init : goal.loop-bound-init
loop-bound-init c = λ name some. absurd (none_taken c.args.few.now name some)

pub loop-bound-preserved : goal.loop-bound-preserved
loop-bound-preserved c =
    few_marked c.args.few.now c.loop-bound.bound-index c.bound-item.result c.loop-bound.marks c.with-marks.result c.loop-bound-test.true c.bound-item.is c.loop-bound.invariant
    (subst (IsMarked c.with-marks.result) c.as_str.ensures c.with-marks.ensures.marked)
    c.with-marks.ensures.kept

pub returns : goal.returns
returns c = all_named c.args.few.now c.loop-bound.bound-index c.loop-bound.marks (let past = c.loop-bound-test.false in omega (arith, past)) c.loop-bound.invariant
