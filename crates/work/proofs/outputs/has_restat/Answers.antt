use Rattle.std.proofs.Common.{sym, ◌∙◌}
use Rattle.work.proofs.Places.{within, no_alias, restat_is}
use Rattle.work.proofs.outputs.has_restat.Goals as goal

pub action-requires : goal.action-requires
action-requires c = within c.args.graph.now c.args.edge c.requires

pub unreachable-requires : goal.unreachable-requires
unreachable-requires c = no_alias c.args.graph.now c.args.edge c.requires (sym c.action.ensures ∙ c.in-Alias.is)

pub returns : goal.returns
returns c = restat_is c.args.graph.now c.args.edge c.requires c.in-Command.command (sym c.action.ensures ∙ c.in-Command.is)
