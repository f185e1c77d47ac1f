use Rattle.dyndep_law.proofs.Total as law
use Rattle.dyndep_law.proofs.laws.has_reading.Goals as goal

pub returns : goal.returns
returns c = law.has_reading c.has_canonical.ensures c.statements_add.ensures
