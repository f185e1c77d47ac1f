use Rattle.std.proofs.Common.{◌≡◌, ℕ, false, length, get_or, take}
use Rattle.std.specs.List.{flat_map}
use Rattle.model.specs.Graph.{has_number}
use Rattle.paths.specs.Lists.{line_inputs}
use Rattle.graph.proofs.graph.Graph.needed.Given as goal

abbrev pub invariant-loop-place : goal.invariant-loop-place
invariant-loop-place l = record {
  fits : length l.needed.items ≡ length l.self.manifest.paths;
  marked : (p : ℕ) → get_or l.needed.items p false ≡ has_number (flat_map line_inputs (take l.place l.self.manifest.lines)) p;
}
