use Rattle.std.proofs.Common.{◌≡◌, ◌<◌, ◌||◌, ℕ, false, get_or, length, take}
use Rattle.std.specs.List.{flat_map}
use Rattle.model.specs.Graph.{has_number}
use Rattle.graph.specs.Links.{links_of}
use Rattle.tools.proofs.missing.mark_inputs.Given as goal

abbrev pub invariant-loop-edge : goal.invariant-loop-edge
invariant-loop-edge l = record {
  count : length l.marks.items ≡ length l.initial.marks.items;
  marked : (p : ℕ) → p < length l.initial.marks.items → get_or l.marks.items p false ≡ (get_or l.initial.marks.items p false || has_number (flat_map (links_of l.graph).inputs (take l.edge-index l.edges)) p);
}
