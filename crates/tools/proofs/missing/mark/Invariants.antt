use Rattle.std.proofs.Common.{◌≡◌, ◌<◌, ◌||◌, ℕ, false, get_or, length, take}
use Rattle.model.specs.Graph.{has_number}
use Rattle.tools.proofs.missing.mark.Given as goal

abbrev pub invariant-loop-path : goal.invariant-loop-path
invariant-loop-path l = record {
  count : length l.marks.items ≡ length l.initial.marks.items;
  marked : (p : ℕ) → p < length l.initial.marks.items → get_or l.marks.items p false ≡ (get_or l.initial.marks.items p false || has_number (take l.path-index l.paths) p);
}
