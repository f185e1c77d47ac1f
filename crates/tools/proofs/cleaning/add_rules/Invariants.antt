use Rattle.std.proofs.Common.{ℕ, ◌<◌, map}
use Rattle.std.specs.Map.Iter.{deref}
use Rattle.tools.specs.Clean.{AddsJust, MayCleanOfRule}
use Rattle.tools.proofs.cleaning.add_rules.Given as goal

abbrev pub invariant-loop-place : goal.invariant-loop-place
invariant-loop-place l = AddsJust l.initial.paths l.paths (λ text. (e : ℕ) × (e < l.place) × MayCleanOfRule l.declared (map deref l.rules) l.generated e text)
