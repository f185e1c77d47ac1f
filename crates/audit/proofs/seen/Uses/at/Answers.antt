use Rattle.std.proofs.Common.{◌∙◌, ℕ, Option, ap, slice_get}
use Rattle.std.specs.Prelude.{unwrap_or}
use Rattle.audit.specs.declared.used.Use.{Use}
use Rattle.audit.specs.Seen.{sums_in}
use Rattle.audit.specs.Uses.{unused}
use Rattle.audit.proofs.Places.{use_nowhere, use_there}
use Rattle.audit.proofs.seen.Uses.at.Goals as goal

pub returns-in-Some : goal.returns-in-Some
returns-in-Some c =
    let sums = sums_in c.args.self.now in
    c.or_none.ensures
    ∙ (ap (λ (u : Option Use). unwrap_or u unused) (c.used.ensures ∙ ap (λ (n : ℕ). slice_get sums.uses n) c.index.ensures.place)
    ∙ use_there sums.paths sums.uses c.args.path.now c.in-Some.number c.in-Some.ensures.once c.in-Some.ensures.place)

pub returns-in-None : goal.returns-in-None
returns-in-None c =
    let sums = sums_in c.args.self.now in
    c.none.ensures ∙ use_nowhere sums.paths sums.uses c.args.path.now c.in-None.ensures.place
