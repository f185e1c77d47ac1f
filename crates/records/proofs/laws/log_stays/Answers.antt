use Rattle.records.proofs.Beginning.{log_stays_so}
use Rattle.records.proofs.laws.log_stays.Goals as goal

pub returns : goal.returns
returns c = log_stays_so
