use Rattle.std.proofs.Common.{map, take}
use Rattle.judge.specs.Summaries.{AreOutputs}
use Rattle.reasons.specs.Why.{OfRecords, seen_output}
use Rattle.reasons.proofs.outputs.summary_of.Given as goal

abbrev pub invariant-loop-output : goal.invariant-loop-output
invariant-loop-output l = OfRecords l.records l.outputs (λ paths rs ds. AreOutputs l.act (map (seen_output paths rs ds l.looks.seen.items) (take l.output-index l.outputs)) l.summary)
