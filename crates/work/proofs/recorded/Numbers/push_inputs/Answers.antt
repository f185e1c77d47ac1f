use Rattle.std.proofs.Common.{List, ℕ, ◌++◌, ◌∙◌, ap, append_assoc}
use Rattle.work.specs.Recorded.{texts_of}
use Rattle.work.proofs.Joining.{logged_item}
use Rattle.work.proofs.Numbering.{only_then, just_is}
use Rattle.work.proofs.recorded.Numbers.push_inputs.Goals as goal

pub returns-in_err-push_input-clause-numbered : goal.returns-in_err-push_input-clause-numbered
returns-in_err-push_input-clause-numbered c are k n is = c.push_input.ensures.numbered (c.loop-path.invariant.numbered are) k n is

pub loop-path-preserved : goal.loop-path-preserved
loop-path-preserved c = record {
  grown = only_then c.args.graph.now c.loop-path.graph c.push_input.new.graph c.loop-path.invariant.grown c.push_input.ensures.grown;
  numbered = λ are. c.push_input.ensures.numbered (c.loop-path.invariant.numbered are);
  inputs = λ paths are just.
      just_is c.push_input.new.graph c.push_input.new.inputs _ _
      (append_assoc paths _ _ ∙ ap (λ (l : List (List ℕ)). paths ++ l) (logged_item (texts_of c.args.records.now) c.as_slice-path-items.result.now c.args.deps.now.paths c.as_slice-path-items.ensures c.loop-path.path-index _ c.loop-path-test.true))
      (c.in_ok-push_input.ensures.inputs _ (c.loop-path.invariant.numbered are) (c.loop-path.invariant.inputs paths are just));
}
