use Rattle.std.proofs.Common.{refl}
use Rattle.host.proofs.below.aside_words.Goals as goal

pub returns : goal.returns
returns c = refl
