use Rattle.std.proofs.Common.{◌≡◌, ℕ, length, true, None, Some, cond, take}
use Rattle.model.specs.Graph.{has_number}
use Rattle.graph.specs.Held.{maker_in, StandOnce}
use Rattle.graph.proofs.makers.claim.Given as goal

abbrev pub invariant-loop-output : goal.invariant-loop-output
invariant-loop-output l = record {
  fits : length l.makers ≡ length l.fn.makers;
  once : StandOnce (take l.output-index l.outputs);
  fresh : (p : ℕ) → has_number (take l.output-index l.outputs) p ≡ true → maker_in l.fn.makers p ≡ None;
  is : (p : ℕ) → maker_in l.makers p ≡ cond (has_number (take l.output-index l.outputs) p) (Some l.edge) (maker_in l.fn.makers p);
}
