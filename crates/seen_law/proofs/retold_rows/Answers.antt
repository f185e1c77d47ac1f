use Rattle.std.proofs.Common.{refl}
use Rattle.seen_law.proofs.retold_rows.Goals as goal

pub returns : goal.returns
returns c = (refl, refl, refl, refl)
