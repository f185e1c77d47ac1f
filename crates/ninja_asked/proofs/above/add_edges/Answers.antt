use Rattle.std.proofs.Common.{refl}
use Rattle.ninja_asked.proofs.Gathering.{edges_more, edges_none}
use Rattle.ninja_asked.proofs.above.add_edges.Goals as goal

pub loop-edge-init : goal.loop-edge-init
loop-edge-init c = λ generators first. edges_none c.args.declared.now c.args.above.now.file c.args.above.now refl generators first

pub loop-edge-preserved : goal.loop-edge-preserved
loop-edge-preserved c = λ generators first.
    edges_more c.args.declared.now c.args.above.now.file c.args.edges.now c.loop-edge.edge-index c.edge-item.result c.loop-edge.above c.add_edge.new.above c.loop-edge-test.true c.edge-item.is (c.loop-edge.invariant generators first) c.in_ok-add_edge.ensures
