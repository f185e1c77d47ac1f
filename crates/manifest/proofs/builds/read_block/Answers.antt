use Rattle.std.proofs.Common.{refl, []}
use Rattle.manifest.proofs.BuildBlocks.{block_next, block_left, block_stop}
use Rattle.manifest.proofs.builds.read_block.Goals as goal

pub loop-line-init : goal.loop-line-init
loop-line-init c past scopes file = record { bound = []; kept = c.new-block.ensures; same = refl }

pub loop-line-preserved : goal.loop-line-preserved
loop-line-preserved c past scopes file =
    block_next file past c.loop-line.block c.read_line.new.block c.args.lines.now c.loop-line.line-index c.line-item.result c.in_ok-stop.field-0 c.loop-line-test.true c.line-item.is
    c.in_default.is (c.in_ok-stop.ensures past scopes) (c.loop-line.invariant past scopes file)

pub returns : goal.returns
returns c past scopes file = block_left file past c.loop-line.block c.args.lines.now c.loop-line.line-index c.loop-line-test.false (c.loop-line.invariant past scopes file)

pub returns-in-Some : goal.returns-in-Some
returns-in-Some c past scopes file =
    block_stop file past c.loop-line.block c.read_line.new.block c.args.lines.now c.loop-line.line-index c.line-item.result c.in_ok-stop.field-0 c.in-Some.stop c.loop-line-test.true c.line-item.is
    c.in-Some.is (c.in_ok-stop.ensures past scopes) (c.loop-line.invariant past scopes file)
