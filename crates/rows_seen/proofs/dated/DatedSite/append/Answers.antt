use Rattle.sim.specs.World.{world_of}
use Rattle.rows_seen.proofs.Untold.{at_err, appends_or_not}
use Rattle.rows_seen.proofs.dated.DatedSite.append.Goals as goal

pub returns-in_err-append-clause-err : goal.returns-in_err-append-clause-err
returns-in_err-append-clause-err c = at_err c.from_residual.result (appends_or_not c.args.path.now c.args.bytes.now (world_of c.args.self.now.site) (world_of c.append.new.self) c.in_err-append.ensures.err)
