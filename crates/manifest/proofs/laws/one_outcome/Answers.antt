use Rattle.manifest.proofs.SameFiles.{one_outcome}
use Rattle.manifest.proofs.laws.one_outcome.Goals as goal

pub returns : goal.returns
returns c = one_outcome c.one_form.ensures c.one_reading.ensures c.values_are_unique.ensures.one_value
