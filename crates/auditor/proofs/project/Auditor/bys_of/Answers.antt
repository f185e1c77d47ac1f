use Rattle.std.proofs.Common.{ℕ, ◌+◌, ◌++◌, ◌∷◌, [], List, length, get_or, sym, ap, ◌∙◌, subst, arith, take}
use Rattle.std.specs.List.{AllZip}
use Rattle.std.proofs.lemmas.List.{length_push, take_more}
use Rattle.audit.specs.declared.seen.By.{By}
use Rattle.audit.specs.declared.whole.Whole.{Whole}
use Rattle.auditor.specs.Links.{CountsThrough}
use Rattle.auditor.proofs.Through.{one_more}
use Rattle.auditor.proofs.project.Auditor.bys_of.Goals as goal

pub loop-whole-preserved : goal.loop-whole-preserved
loop-whole-preserved c =
    let wholes = c.args.wholes.now in
    let place = c.loop-whole.whole-index in
    let bys = c.loop-whole.bys.items in
    let by = c.by_of.result in
    let whole = get_or wholes place c.whole-item.result in
    let longer = take_more wholes place c.whole-item.result (omega arith) in
    let one : CountsThrough whole by = subst (λ (w : Whole). CountsThrough w by) c.whole-item.is c.by_of.ensures in
    let more : AllZip CountsThrough (take place wholes ++ whole ∷ []) (bys ++ by ∷ []) = one_more (take place wholes) bys whole by c.loop-whole.invariant.1 one in (
      ap (λ (bs : List By). length bs) c.in_ok-push.ensures.items ∙ (length_push bys by ∙ ap (λ (n : ℕ). n + 1) c.loop-whole.invariant.0),
      subst (λ (ws : List Whole). AllZip CountsThrough ws c.push.new.self.items) (sym {A = List Whole} longer)
          (subst (λ (bs : List By). AllZip CountsThrough (take place wholes ++ whole ∷ []) bs) (sym {A = List By} c.in_ok-push.ensures.items) more),
    )
