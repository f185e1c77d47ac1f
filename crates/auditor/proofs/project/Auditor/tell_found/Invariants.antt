use Rattle.std.proofs.Common.{◌≡◌}
use Rattle.auditor.proofs.project.Auditor.tell_found.Given as goal

abbrev pub invariant-loop-breach : goal.invariant-loop-breach
invariant-loop-breach l = (l.tally.counts ≡ l.initial.tally.counts) × (l.tally.left ≡ l.initial.tally.left)
