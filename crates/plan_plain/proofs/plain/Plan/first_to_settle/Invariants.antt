use Rattle.std.proofs.Common.{◌≡◌, ℕ, ◌<◌, false}
use Rattle.graph.specs.Links.{links_of}
use Rattle.plan_plain.specs.Scan.{may_settle}
use Rattle.plan_plain.proofs.plain.Plan.first_to_settle.Given as goal

abbrev pub invariant-loop-place : goal.invariant-loop-place
invariant-loop-place l = (k : ℕ) → k < l.place → may_settle (links_of l.graph) l.self.standings.items k ≡ false
