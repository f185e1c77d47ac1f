use Rattle.std.proofs.Common.{◌≡◌, ◌+◌, ◌≤◌, drop}
use Rattle.drive.specs.Moves.{builds_among}
use Rattle.drive.proofs.driving.count_builds.Given as goal

abbrev pub invariant-loop-next : goal.invariant-loop-next
invariant-loop-next l = (l.count ≤ l.next-index) × (l.count + builds_among (drop l.next-index l.moves) ≡ builds_among l.moves)
