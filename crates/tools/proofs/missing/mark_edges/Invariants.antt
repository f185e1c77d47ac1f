use Rattle.std.proofs.Common.{◌≡◌, ◌<◌, ◌||◌, ℕ, false, get_or, length, take}
use Rattle.model.specs.Graph.{has_number}
use Rattle.tools.proofs.missing.mark_edges.Given as goal

abbrev pub invariant-loop-edge : goal.invariant-loop-edge
invariant-loop-edge l = record {
  count : length l.marks.items ≡ length l.initial.marks.items;
  marked : (p : ℕ) → p < length l.initial.marks.items → get_or l.marks.items p false ≡ (get_or l.initial.marks.items p false || has_number (take l.edge-index l.edges) p);
}
