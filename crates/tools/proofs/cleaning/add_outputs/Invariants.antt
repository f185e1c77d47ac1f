use Rattle.std.proofs.Common.{◌≡◌, ◌≢◌, [], true, take}
use Rattle.model.specs.Graph.{has}
use Rattle.paths.specs.Told.{texts_at}
use Rattle.tools.specs.Clean.{AddsJust}
use Rattle.tools.proofs.cleaning.add_outputs.Given as goal

abbrev pub invariant-loop-output : goal.invariant-loop-output
invariant-loop-output l = AddsJust l.initial.paths l.paths (λ text. (text ≢ []) × (has (texts_at l.declared.graph.manifest.paths (take l.output-index l.outputs)) text ≡ true))
