use Rattle.std.proofs.Common.{◌≡◌, ◌<◌, ◌∙◌, arith, get_or, length, true}
use Rattle.std.proofs.lemmas.List.{get_or_default, length-set}
use Rattle.graph.proofs.Turns.{marked_next}
use Rattle.graph.proofs.defaults.mark.Goals as goal

pub loop-path-preserved : goal.loop-path-preserved
loop-path-preserved c =
    let paths = c.args.paths.now in
    let place = c.loop-path.path-index in
    let at : c.index.result ≡ get_or paths place 0 = c.index.ensures.place ∙ (c.path-item.is ∙ get_or_default paths place c.path-item.result 0 c.loop-path-test.true) in
    let low : get_or paths place 0 < length c.args.marks.now = c.requires place 0 c.loop-path-test.true in
    record {
      fits = length-set c.loop-path.marks c.index.result true ∙ c.loop-path.invariant.fits;
      marked = marked_next c.args.marks.now c.loop-path.marks paths place c.index.result c.loop-path-test.true (at ∙ get_or_default paths place 0 c.index.result c.loop-path-test.true)
          (omega (arith, at, low, c.loop-path.invariant.fits)) c.loop-path.invariant.marked;
    }
