use Rattle.graph.proofs.Turns.{insert_next}
use Rattle.graph.proofs.grow.add_all.Goals as goal

pub loop-path-preserved : goal.loop-path-preserved
loop-path-preserved c =
    insert_next c.args.all.now c.loop-path.all c.insert.new.self c.args.paths.now c.loop-path.path-index c.path-item.result c.loop-path-test.true c.path-item.is c.loop-path.invariant c.in_ok-insert.ensures.set
