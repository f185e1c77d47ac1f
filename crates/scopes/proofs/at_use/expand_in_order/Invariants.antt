use Rattle.std.proofs.Common.{take}
use Rattle.scopes.proofs.Knowing.{Knows}
use Rattle.scopes.proofs.at_use.expand_in_order.Given as goal

abbrev pub invariant-loop-name : goal.invariant-loop-name
invariant-loop-name l = Knows l.scopes l.fn.at l.fn.asked l.known (take l.name-index l.name-items)
