use Rattle.seen_drive.proofs.Behind.{behind_law}
use Rattle.seen_drive.proofs.laws.seen_comes_behind.Goals as goal

pub returns : goal.returns
returns c = behind_law
