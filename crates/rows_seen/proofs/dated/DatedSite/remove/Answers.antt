use Rattle.std.proofs.Common.{None}
use Rattle.sim.specs.World.{world_of}
use Rattle.rows_seen.proofs.Untold.{at_err, writes_or_not}
use Rattle.rows_seen.proofs.dated.DatedSite.remove.Goals as goal

pub returns-in_err-remove-clause-err : goal.returns-in_err-remove-clause-err
returns-in_err-remove-clause-err c = at_err c.from_residual.result (writes_or_not c.args.path.now None (world_of c.args.self.now.site) (world_of c.remove.new.self) c.in_err-remove.ensures.err)
