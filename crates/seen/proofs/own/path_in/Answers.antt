use Rattle.std.proofs.Common.{◌∙◌}
use Rattle.seen.proofs.own.path_in.Goals as goal

pub returns : goal.returns
returns c = c.from_string.ensures ∙ c.in_ok-path.ensures
