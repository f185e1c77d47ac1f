use Rattle.std.proofs.Common.{sym, ap, ◌∙◌}
use Rattle.model.specs.declared.graph.Edge.{Edge}
use Rattle.paths.specs.declared.manifest.Action.TheVariants.{Alias, Command}
use Rattle.work.proofs.ShownEdges.{edge_does}
use Rattle.work.proofs.endings.description_of.Goals as goal

pub returns-in-Alias : goal.returns-in-Alias
returns-in-Alias c = sym (ap (λ (edge : Edge). edge.description) (edge_does c.args.graph.now c.args.edge c.requires Alias (sym c.action.ensures ∙ c.in-Alias.is)))

pub returns-in-Command : goal.returns-in-Command
returns-in-Command c =
    c.as_str.ensures
    ∙ sym (ap (λ (edge : Edge). edge.description) (edge_does c.args.graph.now c.args.edge c.requires (Command c.in-Command.command) (sym c.action.ensures ∙ c.in-Command.is)))
