use Rattle.std.proofs.Common.{◌≡◌, ◌+◌, ◌≤◌, ℕ, drop, get_or, length}
use Rattle.std.specs.List.{prefix_len}
use Rattle.notes.proofs.Placing.{is_other}
use Rattle.notes.proofs.ahead.firsts.Given as goal

abbrev pub invariant-loop-left : goal.invariant-loop-left
invariant-loop-left l =
    (l.none ≡ length l.events) × (l.left ≤ l.none)
    × ((job : ℕ) → get_or l.places.items job l.none ≡ l.left + prefix_len (is_other l.ends job) (drop l.left l.events))

abbrev pub decreases-loop-left : goal.decreases-loop-left
decreases-loop-left l = l.left
