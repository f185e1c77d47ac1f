use Rattle.std.proofs.Common.{◌∙◌}
use Rattle.manifest.proofs.EdgeLists.{quoted_next}
use Rattle.manifest.proofs.edges.quote_all.Goals as goal

pub loop-path-preserved : goal.loop-path-preserved
loop-path-preserved c =
    quoted_next c.args.paths.now c.loop-path.path-index _ c.loop-path.words _ _ c.loop-path-test.true c.loop-path.invariant c.in_ok-push.ensures.ok (c.from_string.ensures ∙ c.in_ok-quote.ensures)
