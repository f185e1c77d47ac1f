use Rattle.notes.specs.Edges.{AreEdgesOf}
use Rattle.notes.proofs.edges.makers_of.Given as goal

abbrev pub invariant-loop-place : goal.invariant-loop-place
invariant-loop-place l = AreEdgesOf l.manifest l.makers.items
