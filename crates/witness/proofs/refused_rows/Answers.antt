use Rattle.witness.proofs.Refused.{refused_rows}
use Rattle.witness.proofs.refused_rows.Goals as goal

pub returns : goal.returns
returns c = refused_rows
