use Rattle.std.proofs.Common.{◌≡◌}
use Rattle.reasons.specs.Order.{listed_below}
use Rattle.reasons.proofs.order.listed_edges.Given as goal

abbrev pub invariant-loop-place : goal.invariant-loop-place
invariant-loop-place l = l.edges.items ≡ listed_below l.cone.marks.items l.place
