use Rattle.std.proofs.Common.{◌≡◌, ℕ, true, take}
use Rattle.model.specs.Graph.{has_number}
use Rattle.graph.specs.Cone.{mark_at, is_listed}
use Rattle.graph.specs.Links.{users_at}
use Rattle.graph.specs.Placed.{StandsBefore}
use Rattle.graph.proofs.graph.Graph.is_before_users.Given as goal

abbrev pub invariant-loop-path : goal.invariant-loop-path
invariant-loop-path l = (p d : ℕ) → has_number (take l.path-index l.path-items) p ≡ true → has_number (users_at l.self p) d ≡ true → is_listed (mark_at l.cone.marks.items d) ≡ true → StandsBefore l.cone l.edge d
