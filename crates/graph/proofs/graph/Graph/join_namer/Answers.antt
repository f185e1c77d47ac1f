use Rattle.std.proofs.Common.{◌∙◌, Bool, refl, sym, subst}
use Rattle.graph.specs.Chosen.{HasJoinedIf}
use Rattle.graph.proofs.graph.Graph.join_namer.Goals as goal

pub returns-then-not-names : goal.returns-then-not-names
returns-then-not-names c = subst (λ (b : Bool). HasJoinedIf b c.args.chosen.now.items c.args.edge c.args.chosen.now.items) (sym (sym c.names.ensures ∙ c.if-not-names.true)) refl

pub returns : goal.returns
returns c = subst (λ (b : Bool). HasJoinedIf b c.args.chosen.now.items c.args.edge c.join.new.chosen.items) (sym (sym c.names.ensures ∙ c.if-not-names.false)) c.in_ok-join.ensures
