use Rattle.witness.proofs.Beside.{edited_rows}
use Rattle.witness.proofs.edited_rows.Goals as goal

pub returns : goal.returns
returns c = edited_rows
