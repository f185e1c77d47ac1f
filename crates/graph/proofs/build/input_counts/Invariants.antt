use Rattle.std.proofs.Common.{◌≡◌, length}
use Rattle.graph.proofs.build.input_counts.Given as goal

abbrev pub invariant-loop-place : goal.invariant-loop-place
invariant-loop-place l = length l.counts.items ≡ length l.manifest.paths
