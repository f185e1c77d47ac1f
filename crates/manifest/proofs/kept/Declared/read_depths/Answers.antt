use Rattle.std.proofs.Common.{None}
use Rattle.std.proofs.lemmas.Result.{err_from_is_err_and}
use Rattle.manifest.specs.Declarations.{PoolLine}
use Rattle.manifest.specs.Readings.Outcome.{Reached}
use Rattle.manifest.proofs.RuleLemmas.{lines_step, lines_fault}
use Rattle.manifest.proofs.kept.Declared.read_depths.Goals as goal

pub loop-line-preserved : goal.loop-line-preserved
loop-line-preserved c = λ state is.
    lines_step (PoolLine state c.args.place.now.file.now.value c.args.pool.now) c.args.block.now c.loop-line.line-index c.line-item.result c.loop-line-test.true c.line-item.is None c.loop-line.depth
    (Reached c.in_ok-depth.depth) (c.loop-line.invariant state is) (c.in_ok-depth.ensures state is)

pub returns-in_err-depth : goal.returns-in_err-depth
returns-in_err-depth c = λ state is.
    let failed = err_from_is_err_and c.from_residual.result c.from_residual.ensures.1 in
    rw (failed.1, failed.2) (lines_fault (PoolLine state c.args.place.now.file.now.value c.args.pool.now) c.args.block.now c.loop-line.line-index c.line-item.result c.loop-line-test.true c.line-item.is None c.loop-line.depth _
    (c.loop-line.invariant state is) (c.in_err-depth.ensures state is))
