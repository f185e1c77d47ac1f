use Rattle.std.proofs.Common.{length}
use Rattle.shares.proofs.Cutting.{IsPassed}
use Rattle.shares.proofs.marks.cut_at.Given as goal

abbrev pub invariant-starts : goal.invariant-starts
invariant-starts l = IsPassed l.first l.others l.text l.place l.rest

abbrev pub decreases-starts : goal.decreases-starts
decreases-starts l = length l.rest
