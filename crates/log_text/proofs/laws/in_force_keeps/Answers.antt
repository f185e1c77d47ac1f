use Rattle.log_text.proofs.Compacting.{told_kept}
use Rattle.log_text.proofs.laws.in_force_keeps.Goals as goal

pub returns : goal.returns
returns g c = told_kept
