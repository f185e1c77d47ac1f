use Rattle.std.proofs.Common.{◌≡◌, ℕ, ◌||◌, false, length, get_or, take}
use Rattle.model.specs.Graph.{has_number}
use Rattle.graph.proofs.defaults.mark.Given as goal

abbrev pub invariant-loop-path : goal.invariant-loop-path
invariant-loop-path l = record {
  fits : length l.marks ≡ length l.fn.marks;
  marked : (k : ℕ) → get_or l.marks k false ≡ (get_or l.fn.marks k false || has_number (take l.path-index l.paths) k);
}
