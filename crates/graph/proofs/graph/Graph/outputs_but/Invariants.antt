use Rattle.std.proofs.Common.{◌≡◌, take}
use Rattle.std.specs.List.{flat_map}
use Rattle.paths.specs.Lists.{line_outputs}
use Rattle.graph.specs.Free.{free_of}
use Rattle.graph.proofs.graph.Graph.outputs_but.Given as goal

abbrev pub invariant-loop-place : goal.invariant-loop-place
invariant-loop-place l = l.free.items ≡ free_of l.needed (flat_map line_outputs (take l.place l.self.manifest.lines))
