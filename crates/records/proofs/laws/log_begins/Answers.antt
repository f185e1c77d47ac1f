use Rattle.records.proofs.Beginning.{log_begins_so}
use Rattle.records.proofs.laws.log_begins.Goals as goal

pub returns : goal.returns
returns c = log_begins_so
