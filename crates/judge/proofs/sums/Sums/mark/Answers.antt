use Rattle.std.proofs.Common.{is_ok, ◌∙◌, sym}
use Rattle.judge.proofs.Summing.{not_before, is_behind}
use Rattle.judge.proofs.sums.Sums.mark.Goals as goal

pub returns-else-lasts-clause-others : goal.returns-else-lasts-clause-others
returns-else-lasts-clause-others c q = not_before (is_ok c.push.result) c.args.self.now.passing.items c.push.new.self.items c.args.edge q c.push.ensures.items

pub returns-else-lasts-clause-marked : goal.returns-else-lasts-clause-marked
returns-else-lasts-clause-marked c room passes =
    is_behind (is_ok c.push.result) c.args.self.now.passing.items c.push.new.self.items c.args.edge c.push.ensures.items (sym c.is_ok.ensures.value ∙ room)
