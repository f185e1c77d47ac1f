use Rattle.std.proofs.Common.{refl}
use Rattle.manifest.proofs.kept.ReadEdge.plain_use.Goals as goal

pub returns : goal.returns
returns c = record { scope = refl; block = refl; rule_is = refl; inputs_are = refl; outputs_are = refl; unquoted = refl }
