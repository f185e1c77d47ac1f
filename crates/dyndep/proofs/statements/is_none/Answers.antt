use Rattle.std.proofs.Common.{sym, ◌∙◌}
use Rattle.dyndep.proofs.Parts.{none_told, nothing_named}
use Rattle.dyndep.proofs.statements.is_none.Goals as goal

pub returns : goal.returns
returns c = none_told c.is_empty.result c.args.paths.now c.is_empty.ensures ∙ sym (nothing_named c.args.paths.now)
