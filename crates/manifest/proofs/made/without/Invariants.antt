use Rattle.std.proofs.Common.{◌≡◌, List, ℕ, take}
use Rattle.manifest.specs.InNumbers.{HasNumbers, numbers_without}
use Rattle.manifest.proofs.made.without.Given as goal

abbrev pub invariant-loop-path : goal.invariant-loop-path
invariant-loop-path l = (numbers : List ℕ) → HasNumbers l.outputs.keys numbers → l.kept ≡ numbers_without numbers (take l.path-index l.paths)
