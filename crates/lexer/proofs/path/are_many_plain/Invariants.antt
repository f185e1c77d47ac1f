use Rattle.std.proofs.Common.{◌+◌, ◌-◌, ◌≤◌}
use Rattle.lexer.specs.Beginnings.{AreFine}
use Rattle.lexer.proofs.path.are_many_plain.Given as goal

abbrev pub invariant-loop-i : goal.invariant-loop-i
invariant-loop-i l = AreFine l.parts 0 l.i × (l.i ≤ l.last + 16)

abbrev pub decreases-loop-i : goal.decreases-loop-i
decreases-loop-i l = l.last - l.i
