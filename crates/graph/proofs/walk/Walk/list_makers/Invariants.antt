use Rattle.std.proofs.Common.{◌≡◌, length}
use Rattle.graph.specs.Links.{links_of}
use Rattle.graph.specs.Cone.{IsWalk, Keeps, Grows, HasSeenMakers}
use Rattle.graph.proofs.walk.Walk.list_makers.Given as goal

abbrev pub invariant-loop-path : goal.invariant-loop-path
invariant-loop-path l = record {
  walk : IsWalk l.fn.self.graph.now l.fn.self.requested.now l.self;
  empty : length l.self.stack.items ≡ 0;
  keeps : Keeps l.fn.self.marks.items l.self.marks.items;
  grows : Grows l.fn.self.order.items l.self.order.items;
  seen : HasSeenMakers (links_of l.fn.self.graph.now) l.self.marks.items l.fn.edge l.path-index;
}
