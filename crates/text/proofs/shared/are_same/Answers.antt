use Rattle.std.proofs.Common.{◌++◌, ◌∙◌}
use Rattle.text.proofs.Parts.{turned}
use Rattle.text.proofs.shared.are_same.Goals as goal

pub returns-else-a-c : goal.returns-else-a-c
returns-else-a-c c = c.are_same_from-else-a-c.ensures ∙ turned (c.args.c.now ++ c.args.d.now) (c.args.a.now ++ c.args.b.now)
