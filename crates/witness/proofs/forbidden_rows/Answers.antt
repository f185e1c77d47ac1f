use Rattle.witness.proofs.Forbidden.{forbidden_rows}
use Rattle.witness.proofs.forbidden_rows.Goals as goal

pub returns : goal.returns
returns c = forbidden_rows
