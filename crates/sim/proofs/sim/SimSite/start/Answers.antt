use Rattle.std.proofs.Common.{inr, ap, subst}
use Rattle.model.specs.World.{World}
use Rattle.model.specs.Calls.{Starts}
use Rattle.std.specs.Prelude.{true}
use Rattle.sim.specs.World.{world_of}
use Rattle.sim.proofs.Calls.{starts_launched, starts_then}
use Rattle.sim.proofs.sim.SimSite.start.Goals as goal

pub returns-clause-starts : goal.returns-clause-starts
returns-clause-starts g c = subst (λ (w : World). Starts true c.args.job c.args.act.now w (world_of c.launch.new.self)) (ap world_of c.in_ok-enter.ensures.called)
    (starts_launched g.C.Commands.outcome c.args.job c.args.act.now c.enter.new.self c.launch.new.self c.in_ok-launch.ensures.ok)

pub returns-then-stops-clause-err : goal.returns-then-stops-clause-err
returns-then-stops-clause-err g c = inr (starts_then c.args.job c.args.act.now (world_of c.args.self.now) (world_of c.launch.new.self) (world_of c.halt.new.self)
    (subst (λ (w : World). Starts true c.args.job c.args.act.now w (world_of c.launch.new.self)) (ap world_of c.in_ok-enter.ensures.called)
    (starts_launched g.C.Commands.outcome c.args.job c.args.act.now c.enter.new.self c.launch.new.self c.in_ok-launch.ensures.ok))
    c.halt.ensures.world c.halt.ensures.writes)
