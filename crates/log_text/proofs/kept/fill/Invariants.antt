use Rattle.std.proofs.Common.{take}
use Rattle.log_text.specs.Steps.{IsFilled}
use Rattle.log_text.proofs.kept.fill.Given as goal

abbrev pub invariant-loop-place : goal.invariant-loop-place
invariant-loop-place l = IsFilled l.initial.slots (take l.place-index l.places) l.value l.slots
