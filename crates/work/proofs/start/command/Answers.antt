use Rattle.std.proofs.Common.{sym, ◌∙◌}
use Rattle.work.proofs.Places.{within, no_alias, act_is, deps_is}
use Rattle.work.proofs.start.command.Goals as goal

pub action-requires : goal.action-requires
action-requires c = within c.args.graph.now c.args.edge c.requires

pub unreachable-requires : goal.unreachable-requires
unreachable-requires c = no_alias c.args.graph.now c.args.edge c.requires (sym c.action.ensures ∙ c.in-Alias.is)

pub returns-clause-act : goal.returns-clause-act
returns-clause-act c = act_is c.args.graph.now c.args.edge c.requires c.in-Command.command (sym c.action.ensures ∙ c.in-Command.is)

pub returns-clause-deps : goal.returns-clause-deps
returns-clause-deps c = deps_is c.args.graph.now c.args.edge c.requires c.in-Command.command (sym c.action.ensures ∙ c.in-Command.is)
