use Rattle.sim.proofs.Views.{latest-happened}
use Rattle.sim.proofs.history.append_event.Goals as goal

pub returns-in_ok-happen-clause-stamp : goal.returns-in_ok-happen-clause-stamp
returns-in_ok-happen-clause-stamp c = latest-happened c.args.moments.now c.happen.new.self c.in-Some.event c.in_ok-happen.ensures.ok
