use Rattle.std.proofs.Common.{◌∙◌, sym}
use Rattle.manifest.proofs.EdgeLists.{bare_more}
use Rattle.manifest.proofs.edges.are_bare.Goals as goal

pub loop-path-preserved : goal.loop-path-preserved
loop-path-preserved c =
    bare_more c.args.paths.now c.loop-path.path-index _ c.loop-path-test.true (sym c.is_bare_path.ensures ∙ c.if-not-is_bare_path.false) c.loop-path.invariant
