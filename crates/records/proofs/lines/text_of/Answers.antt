use Rattle.std.proofs.Common.{sym, ap, ◌∙◌}
use Rattle.std.specs.Map.Iter.{deref}
use Rattle.std.specs.Option.{option_map}
use Rattle.records.proofs.Places.{no_text}
use Rattle.records.proofs.lines.text_of.Goals as goal

pub returns-in-None : goal.returns-in-None
returns-in-None c = no_text c.args.graph.now.manifest.paths c.args.path (sym c.get.ensures ∙ ap (option_map deref) c.in-None.is)
