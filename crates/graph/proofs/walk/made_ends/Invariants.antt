use Rattle.std.proofs.Common.{◌≡◌, ℕ, ◌<◌, length, slice_index}
use Rattle.graph.specs.Links.{links_of}
use Rattle.graph.specs.Cone.{IsMadeEnd}
use Rattle.graph.proofs.walk.made_ends.Given as goal

abbrev pub invariant-loop-place : goal.invariant-loop-place
invariant-loop-place l = record {
  fits : length l.ends.items ≡ l.place;
  ends : (e : ℕ) → e < l.place → IsMadeEnd (links_of l.graph) e (slice_index l.ends.items e);
}
