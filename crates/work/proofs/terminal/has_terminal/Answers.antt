use Rattle.std.proofs.Common.{List, ℕ, bytes_eq, sym, ap, ◌∙◌}
use Rattle.model.specs.Graph.{console}
use Rattle.paths.specs.declared.manifest.Action.TheVariants.{Alias, Command}
use Rattle.work.specs.Shown.{is_console}
use Rattle.work.proofs.ShownEdges.{edge_does, is_for_terminal}
use Rattle.work.proofs.terminal.has_terminal.Goals as goal

pub returns-in-Alias : goal.returns-in-Alias
returns-in-Alias c = sym (ap is_console (edge_does c.args.graph.now c.args.edge c.requires Alias (sym c.action.ensures ∙ c.in-Alias.is)))

pub returns-in-None : goal.returns-in-None
returns-in-None c = sym (ap is_console (edge_does c.args.graph.now c.args.edge c.requires (Command c.in-Command.command) (sym c.action.ensures ∙ c.in-Command.is)) ∙ ap is_for_terminal c.in-None.is)

pub returns-in-Some : goal.returns-in-Some
returns-in-Some c =
    c.eq.ensures
    ∙ (ap (λ (name : List ℕ). bytes_eq name console) c.as_str.ensures
    ∙ sym (ap is_console (edge_does c.args.graph.now c.args.edge c.requires (Command c.in-Command.command) (sym c.action.ensures ∙ c.in-Command.is)) ∙ ap is_for_terminal c.in-Some.is))
