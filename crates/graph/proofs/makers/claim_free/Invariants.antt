use Rattle.std.proofs.Common.{◌≡◌, ℕ, length, true, None, Some, cond, take}
use Rattle.model.specs.Graph.{has_number}
use Rattle.graph.specs.Held.{maker_in, StandOnce}
use Rattle.graph.proofs.makers.claim_free.Given as goal

abbrev pub invariant-loop-done : goal.invariant-loop-done
invariant-loop-done l = record {
  fits : length l.makers ≡ length l.fn.makers;
  once : StandOnce (take l.done l.outputs);
  fresh : (p : ℕ) → has_number (take l.done l.outputs) p ≡ true → maker_in l.fn.makers p ≡ None;
  is : (p : ℕ) → maker_in l.makers p ≡ cond (has_number (take l.done l.outputs) p) (Some l.edge) (maker_in l.fn.makers p);
}
