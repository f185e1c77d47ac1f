use Rattle.std.proofs.Common.{◌≡◌, ◌<◌, ℕ, length, slice_index, slice_index_or}
use Rattle.judge.specs.declared.looks.Look.TheVariants.{Unasked}
use Rattle.judge.specs.Seen.{look_at}
use Rattle.work.proofs.outputs.looks_of.Given as goal

abbrev pub invariant-loop-path : goal.invariant-loop-path
invariant-loop-path l =
    (length l.seen.items ≡ l.path-index) × ((k : ℕ) → k < l.path-index → slice_index_or l.seen.items k Unasked ≡ look_at l.looks.seen.items (slice_index l.paths k))
