use Rattle.std.proofs.Common.{◌≡◌, ℕ, true, take}
use Rattle.model.specs.Graph.{has_number}
use Rattle.tools.specs.Clean.{AddsJust, MayCleanPath}
use Rattle.tools.proofs.cleaning.add_targets.Given as goal

abbrev pub invariant-loop-output : goal.invariant-loop-output
invariant-loop-output l = AddsJust l.initial.paths l.paths (λ text. (p : ℕ) × (has_number (take l.output-index l.output-items) p ≡ true) × MayCleanPath l.declared l.generated p text)
