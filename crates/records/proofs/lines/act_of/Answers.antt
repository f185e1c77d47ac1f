use Rattle.std.proofs.Common.{sym, ◌∙◌, suc, get_or}
use Rattle.model.specs.Graph.{edge_at}
use Rattle.paths.specs.Lists.{line_at}
use Rattle.paths.specs.Commands.{no_action}
use Rattle.graph.specs.Told.{declared_by}
use Rattle.records.proofs.Places.{no_alias, act_is}
use Rattle.records.proofs.lines.act_of.Goals as goal

pub unreachable-requires : goal.unreachable-requires
unreachable-requires c =
    let m = c.args.graph.now.manifest in
    no_alias m.paths (line_at m.lines c.args.edge) (get_or m.actions c.args.edge no_action) (edge_at (declared_by c.args.graph.now).edges (suc c.args.edge)) (c.numbers_stand.ensures.edges c.args.edge)
    (sym c.action.ensures ∙ c.in-Alias.is) c.requires.command

pub returns : goal.returns
returns c =
    let m = c.args.graph.now.manifest in
    act_is m.paths (line_at m.lines c.args.edge) (get_or m.actions c.args.edge no_action) (edge_at (declared_by c.args.graph.now).edges (suc c.args.edge)) c.in-Command.command (c.numbers_stand.ensures.edges c.args.edge)
    (sym c.action.ensures ∙ c.in-Command.is)
