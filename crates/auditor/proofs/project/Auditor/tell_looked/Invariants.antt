use Rattle.std.proofs.Common.{◌≡◌}
use Rattle.auditor.proofs.project.Auditor.tell_looked.Given as goal

abbrev pub invariant-loop-place : goal.invariant-loop-place
invariant-loop-place l = (l.tally.counts ≡ l.initial.tally.counts) × (l.tally.left ≡ l.initial.tally.left)
