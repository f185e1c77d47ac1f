use Rattle.sim.proofs.Work.{job_wrote, nobody_wrote}
use Rattle.sim.proofs.sim.work_off.Goals as goal

pub returns-in-Ok-record-clause-others : goal.returns-in-Ok-record-clause-others
returns-in-Ok-record-clause-others g c events live = job_wrote c.args.job c.in-Ok.outcome.writes c.args.history.now c.record.new.self events live c.in-Ok-record.ensures.ok

pub returns-in-Err-clause-others : goal.returns-in-Err-clause-others
returns-in-Err-clause-others g c events live = nobody_wrote _ _ _ c.in-Err.ensures.err
