use Rattle.witness.proofs.Unsaid.{unsaid_rows}
use Rattle.witness.proofs.unsaid_rows.Goals as goal

pub returns : goal.returns
returns c = unsaid_rows
