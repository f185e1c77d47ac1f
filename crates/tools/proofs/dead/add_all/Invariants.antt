use Rattle.std.proofs.Common.{◌≡◌, map, take, true}
use Rattle.std.specs.Map.Iter.{deref}
use Rattle.model.specs.Graph.{has}
use Rattle.tools.specs.Dead.{AddsLeft}
use Rattle.tools.proofs.dead.add_all.Given as goal

abbrev pub invariant-loop-output : goal.invariant-loop-output
invariant-loop-output l = AddsLeft l.declared.graph.manifest l.listed (λ text. has (map deref (take l.output-index l.outputs)) text ≡ true) l.initial.found l.found
