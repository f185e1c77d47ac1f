use Rattle.std.proofs.Common.{◌≡◌, false, filter, get_or, take}
use Rattle.std.specs.List.{flat_map}
use Rattle.graph.specs.Links.{links_of}
use Rattle.tools.proofs.missing.marked_outputs.Given as goal

abbrev pub invariant-loop-edge : goal.invariant-loop-edge
invariant-loop-edge l = l.outputs.items ≡ flat_map (λ e. filter (λ p. get_or l.marks p false) ((links_of l.graph).outputs e)) (take l.edge-index l.edges)
