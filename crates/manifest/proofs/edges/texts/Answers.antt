use Rattle.manifest.proofs.EdgeLists.{texts_next, below_at}
use Rattle.manifest.proofs.edges.texts.Goals as goal

pub text-requires : goal.text-requires
text-requires c = below_at _ c.args.numbers.now c.loop-number.number-index c.number-item.result c.loop-number-test.true c.number-item.is c.requires

pub loop-number-preserved : goal.loop-number-preserved
loop-number-preserved c =
    texts_next c.args.table.now c.args.numbers.now c.loop-number.number-index c.number-item.result c.loop-number.texts.items _ c.text.result c.loop-number-test.true c.number-item.is
    c.loop-number.invariant c.in_ok-push.ensures.ok c.text.ensures
