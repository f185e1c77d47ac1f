use Rattle.std.proofs.Common.{◌≡◌, ℕ, length, get_or, ◌+◌, ◌-◌}
use Rattle.graph.proofs.path_set.lengthen.Given as goal

abbrev pub invariant-loop-rounds : goal.invariant-loop-rounds
invariant-loop-rounds l = (k : ℕ) → get_or l.rounds.items k 0 ≡ get_or l.initial.rounds.items k 0

abbrev pub decreases-loop-rounds : goal.decreases-loop-rounds
decreases-loop-rounds l = (l.place + 1) - length l.rounds.items
