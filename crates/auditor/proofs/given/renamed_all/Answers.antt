use Rattle.std.proofs.Common.{◌++◌, ◌∷◌, [], List, get_or, sym, subst, arith, take}
use Rattle.std.specs.List.{AllZip}
use Rattle.std.proofs.lemmas.List.{take_more}
use Rattle.std.proofs.lemmas.List.Elements.{AllZip-push}
use Rattle.audit.specs.declared.whole.Whole.{Whole}
use Rattle.auditor.specs.Things.{IsGiven}
use Rattle.auditor.proofs.given.renamed_all.Goals as goal

pub loop-whole-preserved : goal.loop-whole-preserved
loop-whole-preserved c =
    let wholes = c.args.wholes.now in
    let place = c.loop-whole.whole-index in
    let named = c.in_ok-renamed_by.field-0 in
    let whole = get_or wholes place c.whole-item.result in
    let longer = take_more wholes place c.whole-item.result (omega arith) in
    let one : IsGiven whole named = subst (λ (w : Whole). IsGiven w named) c.whole-item.is c.in_ok-renamed_by.ensures in
    subst (λ (ws : List Whole). AllZip IsGiven ws c.push.new.self) (sym {A = List Whole} longer)
    (subst (λ (ws : List Whole). AllZip IsGiven (take place wholes ++ whole ∷ []) ws) (sym {A = List Whole} c.in_ok-push.ensures.ok)
    (AllZip-push IsGiven (take place wholes) c.loop-whole.renamed whole named c.loop-whole.invariant one))
