use Rattle.std.proofs.Common.{◌≡◌, drop}
use Rattle.std.specs.Prelude.{find}
use Rattle.graph.specs.Links.{links_of}
use Rattle.reasons.specs.Why.{is_sought, first_of}
use Rattle.reasons.proofs.inputs.first_of.Given as goal

abbrev pub invariant-loop-path : goal.invariant-loop-path
invariant-loop-path l =
    first_of (links_of l.graph) l.anew l.looks.seen.items l.outputs l.reason l.always l.paths
    ≡ find (λ p. is_sought (links_of l.graph) l.anew l.looks.seen.items l.outputs l.reason l.always p) (drop l.path-index l.paths)
