use Rattle.std.proofs.Common.{◌≡◌}
use Rattle.auditor.proofs.project.Auditor.tell_spelled.Given as goal

abbrev pub invariant-loop : goal.invariant-loop
invariant-loop l = (l.tally.counts ≡ l.initial.tally.counts) × (l.tally.left ≡ l.initial.tally.left)
