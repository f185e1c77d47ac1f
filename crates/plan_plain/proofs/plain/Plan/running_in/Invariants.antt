use Rattle.std.proofs.Common.{◌≡◌, ◌≤◌}
use Rattle.plan_plain.specs.Scan.{runs_in, counted}
use Rattle.plan_plain.proofs.plain.Plan.running_in.Given as goal

abbrev pub invariant-loop-place : goal.invariant-loop-place
invariant-loop-place l = (l.running ≡ counted (runs_in l.graph l.self.standings.items l.name) l.place) × (l.running ≤ l.place)
