use Rattle.sim.specs.World.{world_of}
use Rattle.rows_seen.proofs.Untold.{at_err, spoils_or_not}
use Rattle.rows_seen.proofs.dated.DatedSite.write.Goals as goal

pub returns-in_err-write-clause-err : goal.returns-in_err-write-clause-err
returns-in_err-write-clause-err c = at_err c.from_residual.result (spoils_or_not c.args.path.now (world_of c.args.self.now.site) (world_of c.write.new.self) c.in_err-write.ensures.err)
