use Rattle.std.proofs.Common.{◌≡◌, drop}
use Rattle.std.specs.Prelude.{find}
use Rattle.reasons.specs.Why.{OfRecords, seen_output, holds_of_output, first_output}
use Rattle.reasons.proofs.outputs.first_output.Given as goal

abbrev pub invariant-loop-output : goal.invariant-loop-output
invariant-loop-output l = OfRecords l.records l.outputs (λ paths rs ds.
    first_output paths rs ds l.looks.seen.items l.act l.reason l.outputs
    ≡ find (λ p. holds_of_output l.act l.reason (seen_output paths rs ds l.looks.seen.items p)) (drop l.output-index l.outputs))
