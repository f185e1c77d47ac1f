use Rattle.work.proofs.Stops.{fault_so, fault_stopped, fault_on, fault_halted, refusal_on, refusal_halted}
use Rattle.work.proofs.going.given_up.Goals as goal

pub give_up-requires-clause-met : goal.give_up-requires-clause-met
give_up-requires-clause-met g c = fault_so c.args.stop c.in-Fault.fault _ c.in-Fault.is c.requires.met

pub give_up-requires-clause-stopped : goal.give_up-requires-clause-stopped
give_up-requires-clause-stopped g c = fault_stopped c.requires.stop.0 (g.S.Texts.world c.args.site.now) c.args.stop c.in-Fault.fault c.in-Fault.is c.requires.stop.1

pub returns-in-Fault-clause-stop : goal.returns-in-Fault-clause-stop
returns-in-Fault-clause-stop g c entry so =
    fault_on entry (g.S.Texts.world c.args.site.now) (g.S.Texts.world c.give_up.new.site) c.args.stop c.in-Fault.fault c.fault.result c.give_up.result c.in-Fault.is c.fault.ensures so (c.give_up.ensures.seen entry) c.give_up.ensures.takes_in

pub returns-in-Fault-clause-halted : goal.returns-in-Fault-clause-halted
returns-in-Fault-clause-halted g c course grown graph state same there =
    fault_halted g.S.Texts.tells course grown graph state (g.S.Texts.world c.args.site.now) (g.S.Texts.world c.give_up.new.site) c.args.stop c.in-Fault.fault c.fault.result c.give_up.result c.in-Fault.is c.fault.ensures there c.give_up.ensures.left c.give_up.ensures.grows c.give_up.ensures.rest

pub returns-in-Refused-clause-stop : goal.returns-in-Refused-clause-stop
returns-in-Refused-clause-stop g c entry so = refusal_on entry (g.S.Texts.world c.args.site.now) c.args.stop c.in-Refused.refusal c.in-Refused.is so

pub returns-in-Refused-clause-halted : goal.returns-in-Refused-clause-halted
returns-in-Refused-clause-halted g c course grown graph state same there =
    refusal_halted g.S.Texts.tells course grown graph state (g.S.Texts.world c.args.site.now) c.args.stop c.in-Refused.refusal c.in-Refused.is there
