use Rattle.status.proofs.Reading.{one_pattern}
use Rattle.status.proofs.laws.one_pattern.Goals as goal

pub returns : goal.returns
returns c = one_pattern
