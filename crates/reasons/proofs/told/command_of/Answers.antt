use Rattle.std.proofs.Common.{sym, ap, ◌∙◌}
use Rattle.std.proofs.lemmas.Bool.{false≢true}
use Rattle.paths.specs.Lists.{line_at}
use Rattle.paths.specs.Told.{edge_of}
use Rattle.graph.specs.Links.{is_alias}
use Rattle.reasons.proofs.told.command_of.Goals as goal

pub unreachable-requires : goal.unreachable-requires
unreachable-requires c = false≢true (sym c.requires.command ∙ ap is_alias (sym c.action.ensures ∙ c.in-Alias.is))

pub returns : goal.returns
returns c =
    let m = c.args.graph.now.manifest in
    c.numbers_stand.ensures.edges c.args.edge ∙ ap (edge_of m.paths (line_at m.lines c.args.edge)) (sym c.action.ensures ∙ c.in-Command.is)
