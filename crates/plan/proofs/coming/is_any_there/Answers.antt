use Rattle.std.proofs.Common.{◌∙◌, subst, sym}
use Rattle.std.proofs.lemmas.List.{get_or_default}
use Rattle.plan.specs.Coming.{AreAway}
use Rattle.plan.proofs.FilesThere.{all_taken, none_next}
use Rattle.plan.proofs.coming.is_any_there.Goals as goal

pub loop-file-preserved : goal.loop-file-preserved
loop-file-preserved c =
    let loads = c.args.loads.now in
    let place = c.loop-file.file-index in
    let x = c.file-item.result in
    none_next c.args.there.now loads place x c.loop-file-test.true (c.file-item.is ∙ get_or_default loads place x 0 c.loop-file-test.true) (sym c.is_there.ensures ∙ c.if-is_there.false) c.loop-file.invariant

pub returns : goal.returns
returns c = λ nothing. subst (AreAway c.args.there.now) (all_taken c.args.loads.now c.loop-file.file-index c.loop-file-test.false) c.loop-file.invariant
