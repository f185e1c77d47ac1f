use Rattle.graph.specs.Cone.{Keeps}
use Rattle.tools.specs.Rising.{IsRise, work}
use Rattle.tools.proofs.above.Walk.finish.Given as goal

abbrev pub invariant-walk : goal.invariant-walk
invariant-walk l = record {
  walk : IsRise l.fn.self.graph.now l.fn.self.paths.now l.self;
  keeps : Keeps l.fn.self.marks.items l.self.marks.items;
}

abbrev pub decreases-walk : goal.decreases-walk
decreases-walk l = work l.self
