use Rattle.std.proofs.Common.{◌≡◌, drop}
use Rattle.model.specs.Graph.{has_number}
use Rattle.graph.proofs.makers.has.Given as goal

abbrev pub invariant-loop-one : goal.invariant-loop-one
invariant-loop-one l = has_number l.paths l.path ≡ has_number (drop l.one-index l.paths) l.path
