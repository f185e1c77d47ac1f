use Rattle.graph.specs.Cone.{IsWalk, Keeps, Grows, work}
use Rattle.graph.proofs.walk.Walk.finish.Given as goal

abbrev pub invariant-walk : goal.invariant-walk
invariant-walk l = record {
  walk : IsWalk l.fn.self.graph.now l.fn.self.requested.now l.self;
  keeps : Keeps l.fn.self.marks.items l.self.marks.items;
  grows : Grows l.fn.self.order.items l.self.order.items;
}

abbrev pub decreases-walk : goal.decreases-walk
decreases-walk l = work l.self
