use Rattle.dyndep.proofs.Additions as law
use Rattle.dyndep.proofs.laws.statements_add.Goals as goal

pub returns : goal.returns
returns c = law.statements_add
