use Rattle.std.proofs.Common.{◌∙◌, ◌<◌, ℕ, sym, subst}
use Rattle.graph.proofs.Beside.{named_yes, named_no, some_path, unnamed}
use Rattle.graph.proofs.side_files.is_named_beside.Goals as goal

pub naming_at-requires : goal.naming_at-requires
naming_at-requires c =
    let path = some_path c.args.manifest.now.paths c.args.path.now c.in-Some.number c.in-Some.ensures.place in
    subst (λ (n : ℕ). c.in-Some.number < n) (sym {A = ℕ} c.requires.fits) path.0

pub returns-in-Some-clause-yes : goal.returns-in-Some-clause-yes
returns-in-Some-clause-yes c = λ yes.
    named_yes c.args.manifest.now c.args.namings.now c.args.edge c.args.path.now c.in-Some.number c.naming_at.result c.requires c.in-Some.ensures.place c.naming_at.ensures (sym c.is_beside.ensures ∙ yes)

pub returns-in-Some-clause-no : goal.returns-in-Some-clause-no
returns-in-Some-clause-no c = λ no.
    named_no c.args.manifest.now c.args.namings.now c.args.edge c.args.path.now c.in-Some.number c.naming_at.result c.number_of.ensures.once c.requires c.in-Some.ensures.place c.naming_at.ensures (sym c.is_beside.ensures ∙ no)

pub returns-in-None-clause-no : goal.returns-in-None-clause-no
returns-in-None-clause-no c = λ no named. unnamed c.args.manifest.now c.args.path.now c.in-None.ensures.place _ named
