use Rattle.seen_law.proofs.Keeping.{kept_law}
use Rattle.seen_law.proofs.kept_is_told.Goals as goal

pub returns : goal.returns
returns c = kept_law
