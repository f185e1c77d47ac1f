use Rattle.witness.proofs.WorkedRows.{worked_rows}
use Rattle.witness.proofs.laws.worked_rows.Goals as goal

pub returns : goal.returns
returns c = worked_rows
