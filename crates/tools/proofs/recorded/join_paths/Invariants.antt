use Rattle.tools.specs.Joined.{KeepsEdges}
use Rattle.tools.proofs.recorded.join_paths.Given as goal

abbrev pub invariant-loop-number : goal.invariant-loop-number
invariant-loop-number l = KeepsEdges l.fn.graph l.graph
