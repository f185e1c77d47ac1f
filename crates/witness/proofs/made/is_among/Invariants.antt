use Rattle.std.proofs.Common.{◌≡◌, drop}
use Rattle.model.specs.Graph.{has}
use Rattle.witness.proofs.made.is_among.Given as goal

abbrev pub invariant-loop-other : goal.invariant-loop-other
invariant-loop-other l = has (drop l.other-index l.paths) l.path ≡ has l.paths l.path
