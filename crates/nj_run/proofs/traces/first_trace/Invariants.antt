use Rattle.std.proofs.Common.{◌≡◌, ◌<◌, ℕ, List, Some, slice_get}
use Rattle.nj_run.specs.Traces.{IsTracePath}
use Rattle.nj_run.proofs.traces.first_trace.Given as goal

abbrev pub invariant-loop-place : goal.invariant-loop-place
invariant-loop-place l = (k : ℕ) (path : List ℕ) → k < l.place → slice_get l.paths k ≡ Some path → IsTracePath path → ⊥
