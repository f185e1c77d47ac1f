use Rattle.work.proofs.GivingUp.{refused_going, refused_finished, refused_cut, refused_stop, refused_faulted, running_still, fault_stays, fault_ended}
use Rattle.work.proofs.state.Work.finished.Goals as goal

pub finish-requires-clause-running : goal.finish-requires-clause-running
finish-requires-clause-running g c = running_still c.requires.stop.0 (g.S.Texts.world c.args.site.now) c.args.stop c.in-Refused.refusal c.in-Refused.is c.requires.stop.1

pub finish-requires-clause-going : goal.finish-requires-clause-going
finish-requires-clause-going g c = refused_going g.S.Texts.tells c.args.self.now.graph c.args.self.now (g.S.Texts.world c.args.site.now) c.args.stop c.in-Refused.refusal c.in-Refused.is c.requires.refused

pub returns-in-Fault-clause-stop : goal.returns-in-Fault-clause-stop
returns-in-Fault-clause-stop g c entry so = fault_stays entry (g.S.Texts.world c.args.site.now) c.args.stop c.in-Fault.fault c.in-Fault.is so

pub returns-in-Fault-clause-ended : goal.returns-in-Fault-clause-ended
returns-in-Fault-clause-ended g c course grown cone halted =
    fault_ended g.S.Texts.tells course grown c.args.self.now.graph c.args.self.now (g.S.Texts.world c.args.site.now) c.args.stop c.in-Fault.fault c.in-Fault.is halted

pub returns-in-Ok-clause-stop : goal.returns-in-Ok-clause-stop
returns-in-Ok-clause-stop g c entry so =
    refused_stop entry (g.S.Texts.world c.args.site.now) (g.S.Texts.world c.finish.new.site) c.args.stop c.in-Refused.refusal c.in-Refused.is so c.in-Ok.ensures.calm c.finish.ensures.starts

pub returns-in-Ok-clause-ended : goal.returns-in-Ok-clause-ended
returns-in-Ok-clause-ended g c course grown cone halted =
    refused_finished g.S.Texts.tells c.args.self.now.graph c.args.self.now (g.S.Texts.world c.args.site.now) c.args.stop c.in-Refused.refusal c.in-Refused.is (g.S.Texts.world c.finish.new.site) c.finish.ensures.grows c.finish.new.self
    c.in-Ok.ensures.looked c.in-Ok.ensures.ran course grown halted

pub returns-in-Err-clause-stop : goal.returns-in-Err-clause-stop
returns-in-Err-clause-stop g c entry so =
    refused_faulted entry (g.S.Texts.world c.args.site.now) (g.S.Texts.world c.finish.new.site) c.args.stop c.in-Refused.refusal c.fault.result c.in-Err.cut c.in-Refused.is c.fault.ensures so c.in-Err.ensures.seen c.in-Err.ensures.faults

pub returns-in-Err-clause-ended : goal.returns-in-Err-clause-ended
returns-in-Err-clause-ended g c course grown cone halted =
    refused_cut g.S.Texts.tells c.args.self.now.graph c.args.self.now (g.S.Texts.world c.args.site.now) c.args.stop c.in-Refused.refusal c.in-Refused.is (g.S.Texts.world c.finish.new.site) c.finish.ensures.grows c.in-Err.cut c.fault.result c.fault.ensures c.in-Err.ensures.left c.in-Err.ensures.ran course grown halted
