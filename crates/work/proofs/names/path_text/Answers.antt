use Rattle.std.proofs.Common.{sym, ◌∙◌, ap}
use Rattle.std.specs.Option.{option_map}
use Rattle.std.specs.Map.Iter.{deref}
use Rattle.work.proofs.Telling.{none_text}
use Rattle.work.proofs.names.path_text.Goals as goal

pub returns-in-None : goal.returns-in-None
returns-in-None c = c.new.ensures ∙ none_text c.args.manifest.now.paths c.args.number (sym c.get.ensures ∙ ap (option_map deref) c.in-None.is)
