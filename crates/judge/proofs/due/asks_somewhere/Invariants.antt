use Rattle.std.proofs.Common.{ℕ, ◌<◌, get_or}
use Rattle.judge.specs.KeptDues.{AsksForNone}
use Rattle.judge.proofs.due.asks_somewhere.Given as goal

abbrev pub invariant-loop-edge : goal.invariant-loop-edge
invariant-loop-edge l = record {
  none : (k : ℕ) → k < l.edge-index → AsksForNone l.graph (get_or l.edge-items k 0);
}
