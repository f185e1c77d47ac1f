use Rattle.std.proofs.Common.{◌≡◌, ◌<◌, ℕ, true, length, get_or, count_by}
use Rattle.graph.specs.Links.{links_of, needs_at}
use Rattle.plan.specs.Standing.{standing_at, awaits}
use Rattle.plan.specs.Plan.{is_missing}
use Rattle.plan.proofs.first.first_counts.Given as goal

abbrev pub invariant-loop-place : goal.invariant-loop-place
invariant-loop-place l = record {
  fits : length l.left.items ≡ l.place;
  each : (e : ℕ) → e < l.place → awaits (standing_at l.standings e) ≡ true → get_or l.left.items e 0 ≡ count_by (is_missing l.there) (needs_at (links_of l.graph) e);
}
