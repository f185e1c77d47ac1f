use Rattle.manifest.proofs.Moments.{reads_longer}
use Rattle.manifest.proofs.laws.reads_longer.Goals as goal

pub returns : goal.returns
returns c = reads_longer
