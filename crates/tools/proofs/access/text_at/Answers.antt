use Rattle.std.proofs.Common.{refl}
use Rattle.tools.proofs.Past.{text_or}
use Rattle.tools.proofs.access.text_at.Goals as goal

pub returns : goal.returns
returns c = text_or c.get.result _ c.unwrap_or.result c.args.graph.now.manifest.paths c.args.path c.get.ensures refl c.unwrap_or.ensures
