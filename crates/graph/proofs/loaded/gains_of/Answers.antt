use Rattle.std.proofs.Common.{List, ℕ, subst}
use Rattle.graph.specs.Statements.{AreNumbersIn}
use Rattle.graph.proofs.Gaining.{more_then, numbers_more, gains_more, gains_next}
use Rattle.graph.proofs.loaded.gains_of.Goals as goal

pub loop-addition-preserved : goal.loop-addition-preserved
loop-addition-preserved c =
    let first = c.loop-addition.paths in
    let mid = c.numbers_of.new.paths in
    let last = c.numbers_of-in-loop-addition.new.paths in
    let one = c.addition-item.result in
    let more = more_then first mid last c.numbers_of.ensures.more c.numbers_of-in-loop-addition.ensures.more in
    record {
      more = more_then c.args.paths.now first last c.loop-addition.invariant.more more;
      gains = gains_next last c.args.additions.now c.loop-addition.gains.items c.push-in-loop-addition.new.self.items c.loop-addition.addition-index one _ c.loop-addition-test.true c.addition-item.is c.in_ok-push.ensures.items
          (gains_more first last _ c.loop-addition.gains.items more c.loop-addition.invariant.gains)
          (record {
            outputs = numbers_more mid last one.outputs c.in_ok-numbers_of.field-0 c.numbers_of-in-loop-addition.ensures.more (subst (λ (l : List (List ℕ)). AreNumbersIn mid l c.in_ok-numbers_of.field-0) c.as_slice.ensures c.in_ok-numbers_of.ensures.numbers);
            inputs = subst (λ (l : List (List ℕ)). AreNumbersIn last l c.in_ok-numbers_of-2.field-0) c.as_slice-in-loop-addition.ensures c.in_ok-numbers_of-2.ensures.numbers;
          });
    }
