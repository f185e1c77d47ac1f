use Rattle.notes.specs.Edges.{AreEdgesOf}
use Rattle.notes.proofs.edges.put_maker.Given as goal

abbrev pub invariant-loop-output : goal.invariant-loop-output
invariant-loop-output l = AreEdgesOf l.manifest l.makers
