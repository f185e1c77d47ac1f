use Rattle.witness.proofs.Beyond.{round_beyond}
use Rattle.witness.proofs.laws.round_beyond.Goals as goal

pub returns : goal.returns
returns c = round_beyond
