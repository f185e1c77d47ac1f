use Rattle.witness.proofs.Stricter.{stricter_suffice}
use Rattle.witness.proofs.stricter_premises.Goals as goal

pub returns : goal.returns
returns c = stricter_suffice
