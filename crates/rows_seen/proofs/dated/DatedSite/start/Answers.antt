use Rattle.sim.specs.World.{world_of}
use Rattle.rows_seen.proofs.Untold.{at_err, starts_or_not}
use Rattle.rows_seen.proofs.dated.DatedSite.start.Goals as goal

pub returns-in_err-start-clause-err : goal.returns-in_err-start-clause-err
returns-in_err-start-clause-err c =
    at_err c.from_residual.result (starts_or_not c.args.job c.args.act.now (world_of c.args.self.now.site) (world_of c.start.new.self) c.in_err-start.ensures.err)
