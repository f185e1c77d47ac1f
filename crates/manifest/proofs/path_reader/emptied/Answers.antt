use Rattle.std.proofs.Common.{◌∙◌}
use Rattle.manifest.proofs.path_reader.emptied.Goals as goal

pub returns : goal.returns
returns c = c.from_vec.ensures ∙ (c.reserve.ensures.items ∙ c.clear.ensures.items)
