use Rattle.std.proofs.Common.{refl}
use Rattle.builder.proofs.explaining.explanation.Goals as goal

pub returns : goal.returns
returns c = record { edge = refl; output = c.in_ok-first_output.ensures; reason = refl; path = c.in_ok-text_of.ensures; sure = refl }
