use Rattle.std.proofs.Common.{◌≡◌, ◌∙◌, List, ℕ, ap, sym, lit<}
use Rattle.std.specs.List.{slice_split}
use Rattle.std.specs.Prelude.{◌==◌}
use Rattle.std.proofs.lemmas.Iterator.Splits.{YieldsList-from_str_split}
use Rattle.std.proofs.lemmas.Iterator.Consumers.{YieldsList-end, YieldsList-at}
use Rattle.lexer.specs.Path.{texts}
use Rattle.audit.specs.Came.{Came}
use Rattle.audit.specs.Leading.{nothing, step, steps, target_at}
use Rattle.audit.proofs.Parts.{steps_more, texts_more}
use Rattle.audit.proofs.lead.walked.Goals as goal

pub loop-part-preserved : goal.loop-part-preserved
loop-part-preserved c =
    let links = target_at c.args.links.now.own.now c.args.links.now.old.now c.args.sees in
    let parts = texts c.loop-part.yielded in
    c.in_ok-step.ensures
    ∙ (ap (λ (w : Came). step links w c.in-Some.part.now) c.loop-part.invariant
    ∙ (sym (steps_more links nothing parts c.in-Some.part.now)
    ∙ ap (λ (ps : List (List ℕ)). steps links nothing ps) (sym (texts_more c.loop-part.yielded c.in-Some.part))))

pub returns : goal.returns
returns c =
    let links = target_at c.args.links.now.own.now c.args.links.now.old.now c.args.sees in
    let road = YieldsList-at c.into_iter-part-iterator.ensures.into_iter_gives (YieldsList-from_str_split 47 c.args.name.now (lit< tt) c.split-part-items.ensures.text c.split-part-items.ensures.has_more c.split-part-items.ensures.pattern) in
    let whole = YieldsList-end road c.loop-part.yielded _ c.loop-part.yielded_by _ _ c.in-None.is c.next.ensures.steps in
    let seen : texts c.loop-part.yielded ≡ slice_split (λ b. b == 47) c.args.name.now = whole.0 in
    c.loop-part.invariant ∙ ap (λ (ps : List (List ℕ)). steps links nothing ps) seen
