use Rattle.std.proofs.Common.{map, ap, ◌∙◌}
use Rattle.std.proofs.lemmas.List.{take_all}
use Rattle.work.specs.Ends.{first_output_of}
use Rattle.work.proofs.Telling.{map_next}
use Rattle.work.proofs.names.first_outputs.Goals as goal

pub loop-edge-preserved : goal.loop-edge-preserved
loop-edge-preserved c =
    map_next (first_output_of c.args.manifest.now) c.args.edges.now c.loop-edge.edge-index c.edge-item.result c.loop-edge.outputs _ _ c.loop-edge-test.true c.edge-item.is
    c.loop-edge.invariant c.in_ok-push.ensures.ok c.in_ok-first_output.ensures

pub returns : goal.returns
returns c = c.loop-edge.invariant ∙ ap (map (first_output_of c.args.manifest.now)) (take_all c.loop-edge.edge-index c.args.edges.now c.loop-edge-test.false)
