use Rattle.std.proofs.Common.{◌≡◌, ℕ, ◌<◌, length, slice_index}
use Rattle.graph.specs.Cone.{maker_seen}
use Rattle.graph.specs.Links.{links_of}
use Rattle.tools.specs.Rising.{IsRise}
use Rattle.tools.proofs.above.Walk.list_all.Given as goal

abbrev pub invariant-loop-path : goal.invariant-loop-path
invariant-loop-path l = record {
  walk : IsRise l.fn.self.graph.now l.fn.self.paths.now l.self;
  empty : length l.self.stack.items ≡ 0;
  seen : (k : ℕ) → k < l.path-index → maker_seen l.self.marks.items ((links_of l.fn.self.graph.now).maker (slice_index l.fn.self.paths.now k));
}
