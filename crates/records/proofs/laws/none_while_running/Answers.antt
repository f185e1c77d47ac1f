use Rattle.records.proofs.Beginning.{none_while_running_so}
use Rattle.records.proofs.laws.none_while_running.Goals as goal

pub returns : goal.returns
returns c = none_while_running_so
