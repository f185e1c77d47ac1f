use Rattle.std.proofs.Common.{◌≤◌, ◌-◌, length}
use Rattle.depfile.proofs.Stops.{ArePlain}
use Rattle.depfile.proofs.runs.plain_end.Given as goal

abbrev pub invariant-loop-at : goal.invariant-loop-at
invariant-loop-at l = (l.at ≤ length l.bytes) × ArePlain l.bytes l.at

abbrev pub decreases-loop-at : goal.decreases-loop-at
decreases-loop-at l = length l.bytes - l.at
