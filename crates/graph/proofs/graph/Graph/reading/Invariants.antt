use Rattle.std.proofs.Common.{◌-◌, ◌^◌}
use Rattle.graph.proofs.ReadThrough.{AreMet}
use Rattle.graph.proofs.graph.Graph.reading.Given as goal

abbrev pub invariant-loop-next : goal.invariant-loop-next
invariant-loop-next l = AreMet l.self l.fn.edge l.edges.keys l.place

abbrev pub decreases-loop-next : goal.decreases-loop-next
decreases-loop-next l = 2 ^ 64 - l.place
