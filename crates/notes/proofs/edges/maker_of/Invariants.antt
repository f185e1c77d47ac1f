use Rattle.std.proofs.Common.{◌≡◌, ◌<◌, ℕ, false}
use Rattle.model.specs.Graph.{has_number}
use Rattle.paths.specs.Lists.{line_at, line_outputs}
use Rattle.notes.proofs.edges.maker_of.Given as goal

abbrev pub invariant-loop-place : goal.invariant-loop-place
invariant-loop-place l = (e : ℕ) → e < l.place → has_number (line_outputs (line_at l.manifest.lines e)) l.path ≡ false
