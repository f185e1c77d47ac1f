use Rattle.std.proofs.Common.{◌≡◌, length, map, take}
use Rattle.paths.specs.Told.{texts_at}
use Rattle.manifest.specs.declared.kept.ReadEdge.{ReadEdge}
use Rattle.manifest.specs.InNumbers.{AreBelow}
use Rattle.manifest.proofs.described.rule_names.Given as goal

abbrev pub invariant-loop-edge : goal.invariant-loop-edge
invariant-loop-edge l = record {
  named : texts_at l.names l.numbers.items ≡ map (λ (edge : ReadEdge). edge.rule_name) (take l.edge-index l.edges);
  below : AreBelow (length l.names) l.numbers.items;
}
