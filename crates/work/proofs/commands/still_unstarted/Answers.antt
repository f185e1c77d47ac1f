use Rattle.std.proofs.Common.{◌∙◌, ap}
use Rattle.work.specs.Commands.{count_unstarted}
use Rattle.work.proofs.commands.still_unstarted.Goals as goal

pub returns-then-are_same : goal.returns-then-are_same
returns-then-are_same c known = c.unstarted.ensures ∙ known ∙ ap (count_unstarted c.args.plan.now.standings.items) (c.are_same.ensures c.if-are_same.true)

pub returns : goal.returns
returns c known = c.unstarted_commands.ensures
