use Rattle.std.proofs.Common.{◌≡◌, ◌≤◌, ◌<◌, ◌-◌, ℕ, true, length, get_or}
use Rattle.depfile.specs.Pieces.{is_of}
use Rattle.depfile.proofs.runs.run_end.Given as goal

abbrev pub invariant-loop-at : goal.invariant-loop-at
invariant-loop-at l =
    (l.from ≤ l.at) × (l.at ≤ length l.bytes) ×
    ((k : ℕ) → l.from ≤ k → k < l.at → is_of l.class (get_or l.bytes k 0) ≡ true)

abbrev pub decreases-loop-at : goal.decreases-loop-at
decreases-loop-at l = length l.bytes - l.at
