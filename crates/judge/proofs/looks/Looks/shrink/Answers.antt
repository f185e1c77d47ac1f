use Rattle.std.proofs.Common.{◌∙◌, ℕ, take, ap}
use Rattle.judge.proofs.looks.Looks.shrink.Goals as goal

pub returns : goal.returns
returns c = c.truncate.ensures.items ∙ ap (λ (n : ℕ). take n c.args.self.now.seen.items) c.paths.ensures
