use Rattle.std.proofs.Common.{rules}
use Rattle.sim.proofs.Steps.{ticks_now}
use Rattle.sim.proofs.sim.SimSite.tick.Goals as goal

pub returns-clause-adds : goal.returns-clause-adds
returns-clause-adds g c = search rules

pub returns-clause-later : goal.returns-clause-later
returns-clause-later g c = search rules

pub returns-clause-ticks : goal.returns-clause-ticks
returns-clause-ticks g c = ticks_now _ _ _ _ (returns-clause-later g c) (returns-clause-adds g c)
