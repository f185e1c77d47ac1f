use Rattle.sim.specs.World.{world_of}
use Rattle.rows_seen.proofs.Untold.{at_err, ticks_or_not}
use Rattle.rows_seen.proofs.dated.DatedSite.tick.Goals as goal

pub returns-in_err-stamp-clause-err : goal.returns-in_err-stamp-clause-err
returns-in_err-stamp-clause-err c =
    at_err c.from_residual.result (ticks_or_not c.args.path.now (world_of c.args.self.now.site) (world_of c.tick.new.self) c.in_err-stamp.ensures.err)
