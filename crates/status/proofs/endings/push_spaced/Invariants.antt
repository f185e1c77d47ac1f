use Rattle.std.proofs.Common.{◌≡◌, ◌++◌, ◌∷◌, take}
use Rattle.std.specs.List.{flat_map}
use Rattle.status.proofs.endings.push_spaced.Given as goal

abbrev pub invariant-loop-text : goal.invariant-loop-text
invariant-loop-text l = l.shown.items ≡ l.initial.shown.items ++ flat_map (λ text. 32 ∷ text.now) (take l.text-index l.others)
