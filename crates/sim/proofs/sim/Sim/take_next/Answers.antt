use Rattle.sim.specs.declared.faults.Call.TheVariants.{WaitAny}
use Rattle.sim.proofs.Calls.{ends_now}
use Rattle.sim.proofs.Work.{ends_world}
use Rattle.sim.proofs.sim.Sim.take_next.Goals as goal

pub returns-clause-ends : goal.returns-clause-ends
returns-clause-ends g c =
    ends_now g.C.Commands.outcome WaitAny c.pass.new.self c.args.self.now _ c.next-job.result.0 c.next-job.result.1.now c.in_ok-ok.field-0 c.new.result c.in_ok-pass.ensures.called c.next-job.ensures.next c.next-job.ensures.running c.next-job.ensures.act
    c.in_ok-ok.ensures c.new.ensures
    (ends_world c.next-job.result.0 c.in_ok-ok.field-0 c.pass.new.self.history c.record.new.self c.pass.new.self.jobs c.finish.new.self c.pass.new.self.ticked c.pass.new.self.failures c.pass.new.self.failures_at_start c.pass.new.self.wait_refused
    c.finish.ensures c.in_ok-record.ensures.ok)
    c.in_ok-record.ensures.ok
