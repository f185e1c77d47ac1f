use Rattle.std.proofs.Common.{◌≡◌, ◌<◌, not, ℕ, length, slice_index, slice_index_or}
use Rattle.plan.specs.Flags.{has}
use Rattle.judge.specs.declared.looks.Look.TheVariants.{Unasked}
use Rattle.judge.specs.Seen.{look_at}
use Rattle.work.specs.Restat.{is_same_look}
use Rattle.work.proofs.outputs.flags_of.Given as goal

abbrev pub invariant-loop-place : goal.invariant-loop-place
invariant-loop-place l =
    (length l.flags.items ≡ l.place) × ((k : ℕ) → k < l.place → has l.flags.items k ≡ not (is_same_look (slice_index_or l.before k Unasked) (look_at l.looks.seen.items (slice_index l.paths k))))
