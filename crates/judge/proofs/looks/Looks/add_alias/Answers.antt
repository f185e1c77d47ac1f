use Rattle.std.proofs.Common.{◌∙◌, sym}
use Rattle.judge.proofs.Summing.{joined_plain}
use Rattle.judge.proofs.looks.Looks.add_alias.Goals as goal

pub returns-in_default-clause-joined : goal.returns-in_default-clause-joined
returns-in_default-clause-joined g c = joined_plain c.args.graph.now c.args.changed.now c.args.self.now.seen.items c.args.path c.args.inputs.now (sym c.alias.ensures.value ∙ c.in_default.is)
