use Rattle.std.proofs.Common.{ℕ}
use Rattle.graph.specs.Links.{links_of}
use Rattle.graph.specs.Cone.{IsMadeEnd}
use Rattle.graph.proofs.walk.made_end.Given as goal

abbrev pub invariant-loop-end : goal.invariant-loop-end
invariant-loop-end l = IsMadeEnd (links_of l.graph) l.edge l.end

abbrev pub decreases-loop-end : goal.decreases-loop-end
decreases-loop-end l = l.end
