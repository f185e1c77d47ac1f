use Rattle.std.proofs.Common.{◌≡◌, ap, ◌∙◌, ℕ, Some, slice_get, subst}
use Rattle.paths.specs.Numbers.{HaveOnePlace}
use Rattle.audit.specs.Standing.{put_at}
use Rattle.audit.specs.Stood.{Stood}
use Rattle.audit.proofs.Places.{put_known}
use Rattle.audit.proofs.standing.Standing.put.Goals as goal

pub returns-in-Some : goal.returns-in-Some
returns-in-Some c =
    let old = c.args.self.now in
    let inside = c.self.inside in
    let once : HaveOnePlace old.paths = subst (λ (s : Stood). HaveOnePlace s.paths) c.self.view_is c.in-Some.ensures.once in
    let place : slice_get old.paths c.in-Some.number ≡ Some c.args.path.now =
    subst (λ (s : Stood). slice_get s.paths c.in-Some.number ≡ Some c.args.path.now) c.self.view_is c.in-Some.ensures.place in
    put_known old (record { paths = inside.paths; stands = c.set.new.stands.items }) c.args.path.now c.args.stands c.in-Some.number once place
    (ap (λ (s : Stood). s.paths) c.self.view_is)
    (c.set.ensures ∙ (ap (λ (n : ℕ). put_at inside.stands.items n c.args.stands) c.index.ensures.place
    ∙ ap (λ (s : Stood). put_at s.stands c.in-Some.number c.args.stands) c.self.view_is))
