use Rattle.std.proofs.Common.{◌≡◌, ◌<◌, ℕ, not, true}
use Rattle.graph.specs.Cone.{mark_at, is_listed}
use Rattle.plan.specs.Standing.{standing_at, is_outside}
use Rattle.plan.proofs.stay.are_inside.Given as goal

abbrev pub invariant-loop-place : goal.invariant-loop-place
invariant-loop-place l = l.same ≡ true → (e : ℕ) → e < l.place → is_listed (mark_at l.marks e) ≡ not (is_outside (standing_at l.standings e))
