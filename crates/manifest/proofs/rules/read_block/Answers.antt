use Rattle.std.proofs.Common.{[]}
use Rattle.std.proofs.lemmas.Result.{err_from_is_err_and}
use Rattle.manifest.specs.Blocks.{RuleLine}
use Rattle.manifest.proofs.RuleLemmas.{lines_step, lines_fault}
use Rattle.manifest.proofs.rules.read_block.Goals as goal

pub loop-line-preserved : goal.loop-line-preserved
loop-line-preserved c =
    let past = c.loop-line.invariant in
    let next = c.in_ok-read_line.ensures.ok past.0 past.1 in
    (next.0, next.1, lines_step (RuleLine c.args.place.now.file.now.value) c.args.block.now c.loop-line.line-index c.line-item.result c.loop-line-test.true c.line-item.is [] past.0 _ past.2 next.2)

pub returns-in_err-read_line : goal.returns-in_err-read_line
returns-in_err-read_line c =
    let failed = err_from_is_err_and c.from_residual.result c.from_residual.ensures.1 in
    let past = c.loop-line.invariant in
    rw (failed.1, failed.2) (lines_fault (RuleLine c.args.place.now.file.now.value) c.args.block.now c.loop-line.line-index c.line-item.result c.loop-line-test.true c.line-item.is [] past.0 _ past.2 (c.in_err-read_line.ensures.err past.0))
