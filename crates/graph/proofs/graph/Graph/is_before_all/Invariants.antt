use Rattle.std.proofs.Common.{◌≡◌, ℕ, true, take}
use Rattle.model.specs.Graph.{has_number}
use Rattle.graph.specs.Cone.{mark_at, is_listed}
use Rattle.graph.specs.Placed.{StandsBefore}
use Rattle.graph.proofs.graph.Graph.is_before_all.Given as goal

abbrev pub invariant-loop-user : goal.invariant-loop-user
invariant-loop-user l = (d : ℕ) → has_number (take l.user-index l.users) d ≡ true → is_listed (mark_at l.cone.marks.items d) ≡ true → StandsBefore l.cone l.edge d
