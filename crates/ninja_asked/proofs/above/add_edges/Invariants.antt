use Rattle.std.proofs.Common.{◌≡◌, [], take}
use Rattle.ninja_asked.proofs.Gathering.{HasEdges}
use Rattle.ninja_asked.proofs.above.add_edges.Given as goal

abbrev pub invariant-loop-edge : goal.invariant-loop-edge
invariant-loop-edge l = l.fn.above.generators.items ≡ [] → l.fn.above.first.items ≡ [] → HasEdges l.declared l.fn.above.file (take l.edge-index l.edges) l.above
