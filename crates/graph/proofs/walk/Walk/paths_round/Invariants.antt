use Rattle.std.proofs.Common.{◌≡◌, ◌∷◌, ◌-◌, length, map, take, slice_index}
use Rattle.graph.specs.Links.{links_of}
use Rattle.graph.specs.Cone.{awaited}
use Rattle.graph.proofs.walk.Walk.paths_round.Given as goal

abbrev pub invariant-loop-edge : goal.invariant-loop-edge
invariant-loop-edge l =
    l.paths ≡ awaited (links_of l.self.graph.now) l.self.left.items (slice_index l.edges (length l.edges - 1)) ∷ map (awaited (links_of l.self.graph.now) l.self.left.items) (take l.edge-index l.edges)
