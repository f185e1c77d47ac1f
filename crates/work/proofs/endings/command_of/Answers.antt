use Rattle.std.proofs.Common.{sym, ap, ◌∙◌}
use Rattle.model.specs.declared.graph.Edge.{Edge}
use Rattle.paths.specs.declared.manifest.Action.TheVariants.{Alias, Command}
use Rattle.work.proofs.ShownEdges.{edge_does}
use Rattle.work.proofs.endings.command_of.Goals as goal

pub returns-in-Alias : goal.returns-in-Alias
returns-in-Alias c = c.new.ensures ∙ sym (ap (λ (edge : Edge). edge.act.command) (edge_does c.args.graph.now c.args.edge c.requires Alias (sym c.action.ensures ∙ c.in-Alias.is)))

pub returns-in_ok-line-in-Command : goal.returns-in_ok-line-in-Command
returns-in_ok-line-in-Command c =
    c.in_ok-line-in-Command.ensures
    ∙ sym (ap (λ (edge : Edge). edge.act.command) (edge_does c.args.graph.now c.args.edge c.requires (Command c.in-Command.command) (sym c.action.ensures ∙ c.in-Command.is)))
