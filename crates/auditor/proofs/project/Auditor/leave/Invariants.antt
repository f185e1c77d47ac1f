use Rattle.std.proofs.Common.{◌≡◌, drop}
use Rattle.audit.specs.Seen.{sums_in}
use Rattle.auditor.specs.Left.{with_left}
use Rattle.auditor.proofs.project.Auditor.leave.Given as goal

abbrev pub invariant-loop-place : goal.invariant-loop-place
invariant-loop-place l =
    with_left l.self.scratch l.initial.left (sums_in l.uses).paths (sums_in l.uses).uses
    ≡ with_left l.self.scratch l.left (drop l.place (sums_in l.uses).paths) (drop l.place (sums_in l.uses).uses)
