use Rattle.graph.specs.Occupying.{AreFreeUpTo}
use Rattle.paths.specs.Told.{graph_of}
use Rattle.graph.proofs.side_files.lowest_occupied.Given as goal

abbrev pub invariant-loop-place : goal.invariant-loop-place
invariant-loop-place l = AreFreeUpTo l.start (graph_of l.manifest).edges l.place
