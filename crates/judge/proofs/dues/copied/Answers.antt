use Rattle.std.proofs.Common.{◌∙◌, ◌++◌, List, Bool, ap}
use Rattle.judge.proofs.dues.copied.Goals as goal

pub returns : goal.returns
returns c = c.in_ok-extend_from_slice.ensures.items ∙ ap (λ (l : List Bool). l ++ c.args.flags.now) c.in_ok-copy.ensures.items
