use Rattle.std.proofs.Common.{◌≡◌, false, drop}
use Rattle.std.specs.List.{flat_map}
use Rattle.graph.specs.Links.{links_of}
use Rattle.reasons.specs.Why.{first_of}
use Rattle.reasons.proofs.inputs.first_read.Given as goal

abbrev pub invariant-loop-edge : goal.invariant-loop-edge
invariant-loop-edge l =
    first_of (links_of l.graph) l.anew l.looks.seen.items l.outputs l.reason false (flat_map (links_of l.graph).regular l.edges)
    ≡ first_of (links_of l.graph) l.anew l.looks.seen.items l.outputs l.reason false (flat_map (links_of l.graph).regular (drop l.edge-index l.edges))
