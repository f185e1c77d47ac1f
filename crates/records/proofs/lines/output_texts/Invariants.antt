use Rattle.std.proofs.Common.{◌≡◌, take, map}
use Rattle.paths.specs.Told.{texts_at}
use Rattle.records.proofs.lines.output_texts.Given as goal

abbrev pub invariant-loop-output : goal.invariant-loop-output
invariant-loop-output l = map (λ t. t.now) l.texts.items ≡ texts_at l.graph.manifest.paths (take l.output-index l.outputs)
