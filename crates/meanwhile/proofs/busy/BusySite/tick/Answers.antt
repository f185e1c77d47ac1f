use Rattle.sim.specs.World.{world_of}
use Rattle.meanwhile.proofs.Untold.{at_err, ticks_or_not}
use Rattle.meanwhile.proofs.busy.BusySite.tick.Goals as goal

pub returns-in_err-stamp-clause-err : goal.returns-in_err-stamp-clause-err
returns-in_err-stamp-clause-err c =
    at_err c.from_residual-in_err-stamp.result
    (ticks_or_not c.args.path.now (world_of c.args.self.now.site) (world_of c.reach.new.self.site) (world_of c.tick.new.self) c.in_ok-reach.ensures.files c.in_err-stamp.ensures.err)
