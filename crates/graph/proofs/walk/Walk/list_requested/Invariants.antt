use Rattle.std.proofs.Common.{◌≡◌, ℕ, ◌<◌, false, length, slice_index}
use Rattle.graph.specs.Cone.{IsWalk, is_unseen, mark_at}
use Rattle.graph.proofs.walk.Walk.list_requested.Given as goal

abbrev pub invariant-loop-edge : goal.invariant-loop-edge
invariant-loop-edge l = record {
  walk : IsWalk l.fn.self.graph.now l.fn.self.requested.now l.self;
  empty : length l.self.stack.items ≡ 0;
  seen : (k : ℕ) → k < l.edge-index → is_unseen (mark_at l.self.marks.items (slice_index l.fn.self.requested.now k)) ≡ false;
}
