use Rattle.depfile.proofs.Total as law
use Rattle.depfile.proofs.laws.has_reading.Goals as goal

pub returns : goal.returns
returns c = law.has_reading c.has_canonical.ensures
