use Rattle.std.proofs.Common.{List, Bool, length}
use Rattle.graph.specs.declared.graph.Graph.{Graph}
use Rattle.judge.specs.declared.looks.Look.{Look}
use Rattle.judge.specs.Lasting.{AreMarked}
use Rattle.judge.proofs.sums.Sums.forget_made.Given as goal

abbrev pub invariant-loop-edge : goal.invariant-loop-edge
invariant-loop-edge l = record {
  marked : (graph : Graph) (flags : List Bool) (seen : List Look) → AreMarked graph flags seen l.fn.self → AreMarked graph flags seen l.self;
}

abbrev pub decreases-loop-edge : goal.decreases-loop-edge
decreases-loop-edge l = length l.self.passing.items
