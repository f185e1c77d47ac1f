use Rattle.std.proofs.Common.{take}
use Rattle.graph.specs.LoadedEdges.{numbers_in}
use Rattle.graph.specs.Placed.{AreInPlace}
use Rattle.graph.proofs.graph.Graph.are_in_place.Given as goal

abbrev pub invariant-loop-loaded : goal.invariant-loop-loaded
invariant-loop-loaded l = AreInPlace l.self l.cone (numbers_in (take l.loaded-index l.edges))
