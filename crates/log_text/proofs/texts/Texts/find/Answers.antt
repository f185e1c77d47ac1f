use Rattle.std.proofs.Common.{◌≡◌, sym, ap, ◌∙◌, subst, slice_get, Some}
use Rattle.model.specs.Graph.{has}
use Rattle.log_text.proofs.KeptRecords.{known, texts_have}
use Rattle.log_text.proofs.Notes.{if_none}
use Rattle.log_text.proofs.texts.Texts.find.Goals as goal

pub returns-in_err-number-clause-none : goal.returns-in_err-number-clause-none
returns-in_err-number-clause-none c =
    if_none c.from_residual.result (ap (λ v. has v c.args.text.now) (sym c.self.view_is) ∙ (texts_have c.self.inside.texts.keys c.args.text.now ∙ sym c.in_err-number.ensures.found))

pub returns-clause-some : goal.returns-clause-some
returns-clause-some c =
    subst (λ v. slice_get v c.in_ok-number.number ≡ Some c.args.text.now) c.self.view_is (known c.self.inside.texts.keys c.in_ok-number.number c.in_ok-number.field-0-1.now c.args.text.now c.in_ok-number.ensures.key c.in_ok-number.ensures.stored)
