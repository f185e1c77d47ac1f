use Rattle.witness.proofs.DyndepMet.{dyndep_rows}
use Rattle.witness.proofs.dyndep_rows.Goals as goal

pub returns : goal.returns
returns c = dyndep_rows
