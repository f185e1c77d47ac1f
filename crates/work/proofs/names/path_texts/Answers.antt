use Rattle.std.proofs.Common.{ap, ◌∙◌}
use Rattle.std.proofs.lemmas.List.{take_all}
use Rattle.paths.specs.Told.{text_at, texts_at}
use Rattle.work.proofs.Telling.{map_next}
use Rattle.work.proofs.names.path_texts.Goals as goal

pub loop-number-preserved : goal.loop-number-preserved
loop-number-preserved c =
    map_next (text_at c.args.manifest.now.paths) c.args.numbers.now c.loop-number.number-index c.number-item.result c.loop-number.texts _ _ c.loop-number-test.true c.number-item.is
    c.loop-number.invariant c.in_ok-push.ensures.ok c.in_ok-path_text.ensures

pub returns : goal.returns
returns c = c.loop-number.invariant ∙ ap (texts_at c.args.manifest.now.paths) (take_all c.loop-number.number-index c.args.numbers.now c.loop-number-test.false)
