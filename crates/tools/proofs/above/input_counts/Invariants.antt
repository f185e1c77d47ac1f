use Rattle.std.proofs.Common.{◌≡◌, ℕ, ◌<◌, length, slice_index}
use Rattle.graph.specs.Links.{links_of}
use Rattle.tools.proofs.above.input_counts.Given as goal

abbrev pub invariant-loop-place : goal.invariant-loop-place
invariant-loop-place l = record {
  fits : length l.counts.items ≡ l.place;
  counted : (e : ℕ) → e < l.place → slice_index l.counts.items e ≡ length ((links_of l.graph).inputs e);
}
