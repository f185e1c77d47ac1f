use Rattle.std.proofs.Common.{◌≡◌, Some, sym, ap, ◌∙◌, subst, slice_get}
use Rattle.model.specs.Graph.{has}
use Rattle.log_text.proofs.Lookups.{told_found}
use Rattle.log_text.proofs.kept.Kept.find.Goals as goal

pub returns-in_err-number-clause-place : goal.returns-in_err-number-clause-place
returns-in_err-number-clause-place g c = λ all is.
    let q = c.args.output.now in
    c.from_residual.ensures ∙ sym (is.absent q (ap (λ v. has v.outputs q) (sym c.self.view_is) ∙ c.in_err-number.ensures.none))

pub returns-in_err-number-clause-told : goal.returns-in_err-number-clause-told
returns-in_err-number-clause-told g c = λ all is.
    told_found all c.args.output.now _ (returns-in_err-number-clause-place g c all is)

pub returns-clause-place : goal.returns-clause-place
returns-clause-place g c = λ all is.
    let q = c.args.output.now in
    let at = subst (λ v. slice_get v.outputs c.in_ok-number.number ≡ Some q) c.self.view_is c.in_ok-number.ensures.some in
    c.place.ensures ∙ is.place c.in_ok-number.number q at

pub returns-clause-told : goal.returns-clause-told
returns-clause-told g c = λ all is. told_found all c.args.output.now _ (returns-clause-place g c all is)
