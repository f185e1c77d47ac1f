use Rattle.sim.specs.World.{world_of}
use Rattle.sim_measured.proofs.Seeing.{sees_content}
use Rattle.sim_measured.proofs.measuring.MeasuringMeasured.read_measured.Goals as goal

pub returns-clause-content : goal.returns-clause-content
returns-clause-content c tells =
    sees_content c.args.path.now (world_of c.args.self.now.site) (world_of c.stat.new.self) c.stat.ensures.looks c.in_ok-stamp.stamp c.in_ok-stamp.ensures.present c.in_ok-content.content c.measure_with.result
    c.in_ok-content.ensures c.measure_with.ensures
