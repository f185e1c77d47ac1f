use Rattle.std.proofs.Common.{◌∙◌, List, ℕ, Some, ap}
use Rattle.graph.specs.Statements.{HasMore}
use Rattle.graph.proofs.Gaining.{more_none, more_then, longer_more, numbers_next}
use Rattle.graph.proofs.Longer.{IsLonger, added_longer}
use Rattle.graph.proofs.loaded.numbers_of.Goals as goal

pub loop-text-preserved : goal.loop-text-preserved
loop-text-preserved c =
    let old = c.loop-text.paths in
    let new = c.add.new.self in
    let longer : IsLonger old new c.as_str.result.now = added_longer c.add.result old new c.as_str.result.now c.add.ensures.added c.add.ensures.err in
    let more : HasMore old new = longer_more old new c.as_str.result.now longer in
    record {
      more = more_then c.args.paths.now old new c.loop-text.invariant.more more;
      numbers = numbers_next old new c.args.texts.now c.loop-text.numbers c.push.new.self c.loop-text.text-index c.in_ok-add.field-0 c.text-item.result c.loop-text-test.true c.text-item.is more
          (c.in_ok-add.ensures.added.at ∙ ap (λ (t : List ℕ). Some t) c.as_str.ensures) c.in_ok-push.ensures.ok c.loop-text.invariant.numbers;
    }

pub returns-in_err-add-clause-more : goal.returns-in_err-add-clause-more
returns-in_err-add-clause-more c =
    let old = c.loop-text.paths in
    let new = c.add.new.self in
    more_then c.args.paths.now old new c.loop-text.invariant.more (longer_more old new c.as_str.result.now (added_longer c.add.result old new c.as_str.result.now c.add.ensures.added c.add.ensures.err))
