use Rattle.std.proofs.Common.{◌≡◌, ℕ, ◌<◌, false}
use Rattle.plan_plain.specs.Scan.{may_start}
use Rattle.plan_plain.proofs.plain.Plan.first_to_start.Given as goal

abbrev pub invariant-loop-place : goal.invariant-loop-place
invariant-loop-place l = (k : ℕ) → k < l.place → may_start l.graph l.self.standings.items k ≡ false
