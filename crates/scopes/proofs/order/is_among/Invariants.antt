use Rattle.std.proofs.Common.{◌≡◌, drop}
use Rattle.scopes.specs.Use.{has}
use Rattle.scopes.proofs.order.is_among.Given as goal

abbrev pub invariant-loop-other : goal.invariant-loop-other
invariant-loop-other l = has l.names l.name ≡ has (drop l.other-index l.names) l.name
