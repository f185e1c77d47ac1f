use Rattle.std.proofs.Common.{◌≡◌, drop}
use Rattle.model.specs.Graph.{has}
use Rattle.log_text.proofs.outputs.is_among.Given as goal

abbrev pub invariant-loop-other : goal.invariant-loop-other
invariant-loop-other l = has (drop l.other-index l.outputs) l.output ≡ has l.outputs l.output
