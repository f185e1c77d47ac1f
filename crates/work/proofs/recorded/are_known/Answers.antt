use Rattle.std.proofs.Common.{sym, ◌∙◌}
use Rattle.work.proofs.Joining.{known_as, known_next, known_not}
use Rattle.work.proofs.recorded.are_known.Goals as goal

pub returns-then-not-is_known : goal.returns-then-not-is_known
returns-then-not-is_known c paths rs ds of =
    let outputs = c.args.outputs.now in
    let place = c.loop-output.output-index in
    let low = c.loop-output-test.true in
    sym (known_not paths rs ds c.args.act.now outputs place low c.output-item.result c.output-item.is
    (known_as paths outputs rs ds c.args.records.now of c.args.act.now place c.output-item.result low c.output-item.is c.is_known.result (c.is_known.ensures of.first rs ds of.known of.told) ∙ c.if-not-is_known.true))

pub loop-output-preserved : goal.loop-output-preserved
loop-output-preserved c paths rs ds of =
    let outputs = c.args.outputs.now in
    let place = c.loop-output.output-index in
    let low = c.loop-output-test.true in
    known_next paths rs ds c.args.act.now outputs place low c.output-item.result c.output-item.is (c.loop-output.invariant paths rs ds of)
    (known_as paths outputs rs ds c.args.records.now of c.args.act.now place c.output-item.result low c.output-item.is c.is_known.result (c.is_known.ensures of.first rs ds of.known of.told) ∙ c.if-not-is_known.false)
