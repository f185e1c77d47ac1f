use Rattle.std.proofs.Common.{◌≡◌, ◌<◌, ℕ, length}
use Rattle.graph.specs.Links.{links_of}
use Rattle.plan.specs.Standing.{standing_at}
use Rattle.plan.specs.First.{first_at}
use Rattle.plan.proofs.first.first_standings.Given as goal

abbrev pub invariant-loop-place : goal.invariant-loop-place
invariant-loop-place l = record {
  fits : length l.standings.items ≡ l.place;
  each : (e : ℕ) → e < l.place → standing_at l.standings.items e ≡ first_at (links_of l.graph) l.cone.marks.items e;
}
