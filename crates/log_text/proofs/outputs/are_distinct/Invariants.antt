use Rattle.std.proofs.Common.{◌≡◌, take, map}
use Rattle.log_text.specs.Kept.{AreDistinct}
use Rattle.log_text.proofs.outputs.are_distinct.Given as goal

abbrev pub invariant-loop-output : goal.invariant-loop-output
invariant-loop-output l = record {
  seen : map (λ k. k.now) l.seen.keys ≡ take l.output-index l.outputs;
  distinct : AreDistinct (take l.output-index l.outputs);
}
