use Rattle.std.proofs.Common.{◌≡◌, ◌∷◌, [], ◌++◌, List, ℕ, Some, sym, ap, ◌∙◌, subst, slice_get, Option, None}
use Rattle.log_text.specs.Kept.{IsTableOf}
use Rattle.log_text.proofs.KeptRecords.{grown_same, as_table}
use Rattle.log_text.proofs.kept.Kept.number_of.Goals as goal

pub returns-in-Some-clause-number : goal.returns-in-Some-clause-number
returns-in-Some-clause-number g c = subst (λ v. slice_get v.outputs c.in-Some.number ≡ Some c.args.output.now) c.self.view_is c.in-Some.ensures.some

pub returns-clause-same : goal.returns-clause-same
returns-clause-same g c = λ all is.
    let slots : c.push.new.self.items ≡ c.self.inside.in_force.items ++ None ∷ [] = c.in_ok-push.ensures.items ∙ ap (λ (xs : List (Option ℕ)). xs ++ None ∷ []) c.in_ok-reserve.ensures.items in
    let inside = subst (IsTableOf all) (sym c.self.view_is) is in
    as_table all _ _ _ _ c.in_ok-number.ensures.added slots (grown_same all _ c.args.output.now inside c.in_default.ensures.none)

pub returns-clause-grown : goal.returns-clause-grown
returns-clause-grown g c =
    record { more = c.args.output.now ∷ []; outputs = c.in_ok-number.ensures.added ∙ ap (λ v. v.outputs ++ c.args.output.now ∷ []) c.self.view_is }
