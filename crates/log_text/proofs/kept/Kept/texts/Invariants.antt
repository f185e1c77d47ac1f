use Rattle.std.proofs.Common.{◌≡◌, take, map}
use Rattle.log_text.specs.Kept.{texts_at}
use Rattle.log_text.proofs.kept.Kept.texts.Given as goal

abbrev pub invariant-loop-number : goal.invariant-loop-number
invariant-loop-number g l = map (λ o. o.now) l.texts.items ≡ texts_at l.self.outputs (take l.number-index l.numbers)
