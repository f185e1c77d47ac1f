use Rattle.drive.proofs.Idle.{end_law}
use Rattle.drive.proofs.laws.builds_end.Goals as goal

pub returns : goal.returns
returns c = end_law c.has_format.ensures c.has_reading.ensures c.has_reading-2.ensures
