use Rattle.std.proofs.Common.{◌≡◌, ◌<◌, length, get_or}
use Rattle.manifest.proofs.EdgeLists.{words_next}
use Rattle.manifest.proofs.edges.borrow_all.Goals as goal

pub loop-word-preserved : goal.loop-word-preserved
loop-word-preserved c =
    words_next c.args.words.now c.loop-word.word-index c.word-item.result c.loop-word.texts.items _ c.as_str.result (rw c.as_slice-word-items.ensures at c.loop-word-test.true) (rw c.as_slice-word-items.ensures at c.word-item.is)
    c.loop-word.invariant c.in_ok-push.ensures.items c.as_str.ensures
