use Rattle.std.proofs.Common.{ℕ, ◌<◌}
use Rattle.tools.specs.Clean.{AddsJust, MayClean}
use Rattle.tools.proofs.cleaning.add_all.Given as goal

abbrev pub invariant-loop-place : goal.invariant-loop-place
invariant-loop-place l = AddsJust l.initial.paths l.paths (λ text. (e : ℕ) × (e < l.place) × MayClean l.declared l.generated e text)
