use Rattle.std.proofs.Common.{◌≡◌, map, take}
use Rattle.work.specs.Ends.{first_output_of}
use Rattle.work.proofs.names.first_outputs.Given as goal

abbrev pub invariant-loop-edge : goal.invariant-loop-edge
invariant-loop-edge l = l.outputs ≡ map (first_output_of l.manifest) (take l.edge-index l.edges)
