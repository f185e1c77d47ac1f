use Rattle.std.proofs.Common.{◌∙◌, ℕ, List, ap, slice_get}
use Rattle.audit.specs.declared.standing.Stands.{Stands}
use Rattle.audit.specs.Standing.{stand_at}
use Rattle.audit.specs.Stood.{Stood}
use Rattle.audit.proofs.Places.{stand_nowhere, stand_there}
use Rattle.audit.proofs.standing.Standing.at.Goals as goal

pub returns-in-Some : goal.returns-in-Some
returns-in-Some c =
    let inside = c.self.inside in
    c.in_place.ensures
    ∙ (ap (λ (l : List Stands). slice_get l c.index.result) c.as_slice.ensures.value
    ∙ (ap (λ (n : ℕ). slice_get inside.stands.items n) c.index.ensures.place
    ∙ (stand_there inside.paths inside.stands.items c.args.path.now c.in-Some.number c.in-Some.ensures.once c.in-Some.ensures.place
    ∙ ap (λ (s : Stood). stand_at s c.args.path.now) c.self.view_is)))

pub returns-in-None : goal.returns-in-None
returns-in-None c =
    let inside = c.self.inside in
    stand_nowhere inside.paths inside.stands.items c.args.path.now c.in-None.ensures.place
    ∙ ap (λ (s : Stood). stand_at s c.args.path.now) c.self.view_is
