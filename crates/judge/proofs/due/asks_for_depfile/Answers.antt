use Rattle.std.proofs.Common.{◌≢◌, ◌∙◌, [], sym, ap, subst}
use Rattle.model.specs.declared.graph.Edge.{Edge}
use Rattle.judge.proofs.due.asks_for_depfile.Goals as goal

pub returns : goal.returns
returns c so plain named unset = c.leaves_depfile.ensures so (subst (λ (e : Edge). e.act.depfile ≢ []) c.command_of.ensures named) (sym (ap (λ (e : Edge). e.deps) c.command_of.ensures) ∙ unset)
