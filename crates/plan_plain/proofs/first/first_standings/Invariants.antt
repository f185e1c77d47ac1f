use Rattle.std.proofs.Common.{◌≡◌, ℕ, ◌<◌, length}
use Rattle.graph.specs.Links.{links_of}
use Rattle.graph.specs.Cone.{is_listed, mark_at}
use Rattle.plan.specs.Standing.{standing_at}
use Rattle.plan_plain.specs.Planned.{first_standing}
use Rattle.plan_plain.proofs.first.first_standings.Given as goal

abbrev pub invariant-loop-place : goal.invariant-loop-place
invariant-loop-place l =
    (length l.standings.items ≡ l.place) × ((k : ℕ) → k < l.place → standing_at l.standings.items k ≡ first_standing (is_listed (mark_at l.cone.marks.items k)) ((links_of l.graph).phony k))
