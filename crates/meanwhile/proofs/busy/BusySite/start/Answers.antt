use Rattle.sim.specs.World.{world_of}
use Rattle.meanwhile.proofs.Untold.{at_err, starts_or_not}
use Rattle.meanwhile.proofs.busy.BusySite.start.Goals as goal

pub returns-in_err-start-clause-err : goal.returns-in_err-start-clause-err
returns-in_err-start-clause-err c =
    at_err c.from_residual-in_err-start.result
    (starts_or_not c.args.job c.args.act.now (world_of c.args.self.now.site) (world_of c.last.new.self.site) (world_of c.start.new.self) c.in_ok-last.ensures.files c.in_err-start.ensures.err)
