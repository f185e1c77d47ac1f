use Rattle.std.proofs.Common.{◌≡◌, length}
use Rattle.manifest.proofs.Describing.{AreMarked}
use Rattle.manifest.proofs.described.generators.Given as goal

abbrev pub invariant-loop-edge : goal.invariant-loop-edge
invariant-loop-edge l = record {
  count : length l.marks.items ≡ l.edge-index;
  marked : AreMarked l.declared l.marks.items;
}
