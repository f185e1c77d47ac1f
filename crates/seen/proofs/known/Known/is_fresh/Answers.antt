use Rattle.std.proofs.Common.{◌∙◌}
use Rattle.seen.proofs.Making.{found_is}
use Rattle.seen.proofs.known.Known.is_fresh.Goals as goal

pub returns : goal.returns
returns c = c.is_some.ensures ∙ found_is c.args.self.now.fresh c.args.path.now c.number_of.result c.number_of.ensures.place
