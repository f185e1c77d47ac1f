use Rattle.sim.specs.Sim.{given_by}
use Rattle.sim.proofs.Work.{finishes_now}
use Rattle.sim.proofs.sim.SimSite.wait_any.Goals as goal

pub returns-in-Ok-clause-finishes : goal.returns-in-Ok-clause-finishes
returns-in-Ok-clause-finishes g c = let ends = c.in-Ok.ensures.ends in finishes_now c.in-Ok.finished.job c.in-Ok.finished.ok (given_by g.C.Commands.outcome ends.one c.args.self.now.history) _ _ ends.next.running ends.world
