use Rattle.std.proofs.Common.{◌∙◌, ap, take, drop}
use Rattle.std.proofs.lemmas.List.{take-append-drop}
use Rattle.sim.specs.World.{world_of, appended}
use Rattle.sim.proofs.Calls.{appends_cut}
use Rattle.sim.proofs.Steps.{appends_now}
use Rattle.sim.proofs.sim.SimSite.append.Goals as goal

pub returns-clause-appends : goal.returns-clause-appends
returns-clause-appends g c = appends_now c.args.path.now c.args.bytes.now (world_of c.args.self.now) (world_of c.put_behind.new.self)
    (ap world_of c.in_ok-put_behind-in-None.ensures.ok ∙ ap (λ w. appended c.args.path.now c.args.bytes.now w) (ap world_of c.in_ok-enter.ensures.called))

pub returns-in-Some-clause-err : goal.returns-in-Some-clause-err
returns-in-Some-clause-err g c = appends_cut g.C.Commands.outcome c.args.path.now (take c.in-Some.count c.args.bytes.now) (drop c.in-Some.count c.args.bytes.now) c.args.bytes.now (world_of c.args.self.now)
    c.enter.new.self c.put_part_behind.new.self c.halt.new.self (ap world_of c.in_ok-enter.ensures.called) c.in_ok-put_part_behind-in-Some.ensures.ok (take-append-drop c.in-Some.count c.args.bytes.now) c.halt.ensures
