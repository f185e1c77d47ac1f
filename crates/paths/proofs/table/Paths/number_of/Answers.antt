use Rattle.std.proofs.Common.{refl, subst, sym, MatchOption, false, ◌≡◌, Some, slice_get}
use Rattle.model.specs.Graph.{has}
use Rattle.paths.proofs.Places.{found_nowhere, found_place}
use Rattle.paths.proofs.table.Paths.number_of.Goals as goal

pub returns-in_err-get_index_of-clause-place : goal.returns-in_err-get_index_of-clause-place
returns-in_err-get_index_of-clause-place c =
    subst (λ r. MatchOption r (has c.args.self.now c.args.path.now ≡ false) (λ number. slice_get c.args.self.now number ≡ Some c.args.path.now)) (sym c.from_residual.ensures)
    (found_nowhere c.args.path.now _ c.self.inside.texts.keys c.args.self.now c.get_index_of.result c.self.view_is refl c.get_index_of.ensures.index c.in_err-get_index_of.was)

pub returns-clause-place : goal.returns-clause-place
returns-clause-place c =
    found_place c.args.path.now _ c.self.inside.texts.keys c.args.self.now c.get_index_of.result c.at.result c.in_ok-get_index_of.field-0 c.self.view_is c.self.invariant.1 refl
    c.get_index_of.ensures.index c.in_ok-get_index_of.was c.at.ensures
