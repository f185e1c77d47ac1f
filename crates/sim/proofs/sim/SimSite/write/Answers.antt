use Rattle.std.proofs.Common.{rules}
use Rattle.sim.proofs.Steps.{writes_now}
use Rattle.sim.proofs.sim.SimSite.write.Goals as goal

pub returns-clause-adds : goal.returns-clause-adds
returns-clause-adds g c = search rules

pub returns-clause-writes : goal.returns-clause-writes
returns-clause-writes g c = writes_now _ _ _ _ (returns-clause-adds g c)
