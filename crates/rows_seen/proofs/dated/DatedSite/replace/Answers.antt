use Rattle.std.proofs.Common.{Some}
use Rattle.sim.specs.World.{world_of}
use Rattle.rows_seen.proofs.Untold.{at_err, writes_or_not}
use Rattle.rows_seen.proofs.dated.DatedSite.replace.Goals as goal

pub returns-in_err-replace-clause-err : goal.returns-in_err-replace-clause-err
returns-in_err-replace-clause-err c = at_err c.from_residual.result (writes_or_not c.args.path.now (Some c.args.content.now) (world_of c.args.self.now.site) (world_of c.replace.new.self) c.in_err-replace.ensures.err)
