use Rattle.std.proofs.Common.{not, ℕ, List, ◌∙◌, ap}
use Rattle.paths.specs.Told.{texts_at}
use Rattle.work.specs.Recorded.{are_known}
use Rattle.work.proofs.Joining.{in_use_alias, in_use_late, in_use_command, outputs_known}
use Rattle.work.proofs.recorded.is_in_use.Goals as goal

pub returns-in-Alias : goal.returns-in-Alias
returns-in-Alias c rs ds known = in_use_alias c.args.graph.now rs ds c.args.edge c.action.result.now c.action.ensures c.in-Alias.is

pub returns-then-is_none : goal.returns-then-is_none
returns-then-is_none c rs ds known =
    let graph = c.args.graph.now in
    let command = c.in-Command.command in
    in_use_command graph rs ds c.args.edge c.action.result.now command c.action.ensures c.in-Command.is (c.is_none.ensures ∙ ap not c.if-is_none.true) c.are_known.result
    (c.are_known.ensures graph.manifest.paths rs ds (outputs_known graph rs ds c.args.records.now known c.args.edge c.outputs.result.now c.outputs.ensures)
    ∙ ap (λ (ns : List ℕ). are_known rs ds command.act (texts_at graph.manifest.paths ns)) c.outputs.ensures)

pub returns-else-is_none : goal.returns-else-is_none
returns-else-is_none c rs ds known =
    c.if-is_none.false ∙ in_use_late c.args.graph.now rs ds c.args.edge c.action.result.now c.in-Command.command c.action.ensures c.in-Command.is (c.is_none.ensures ∙ ap not c.if-is_none.false)
