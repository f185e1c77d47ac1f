use Rattle.sim.specs.World.{world_of}
use Rattle.sim_measured.proofs.Seeing.{sees_measure}
use Rattle.sim_measured.proofs.measuring.MeasuringMeasured.measure.Goals as goal

pub returns-clause-measure : goal.returns-clause-measure
returns-clause-measure c tells =
    sees_measure c.args.path.now (world_of c.args.self.now.site) (world_of c.stat.new.self) c.stat.ensures.looks c.in_ok-stamp.stamp c.in_ok-stamp.ensures.present c.size_at-size.result c.measure_by.result
    c.size_at-size.ensures c.measure_by.ensures
