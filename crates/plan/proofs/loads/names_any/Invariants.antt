use Rattle.std.proofs.Common.{◌≡◌, ◌<◌, ℕ, None}
use Rattle.plan.specs.Standing.{standing_at}
use Rattle.plan.specs.Loads.{named_by}
use Rattle.plan.proofs.loads.names_any.Given as goal

abbrev pub invariant-loop-place : goal.invariant-loop-place
invariant-loop-place l = (e : ℕ) → e < l.place → named_by l.graph (standing_at l.standings e) e ≡ None
