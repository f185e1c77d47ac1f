use Rattle.std.proofs.Common.{◌≡◌, ◌∙◌, List, ℕ, false, subst, sym}
use Rattle.std.proofs.lemmas.Bool.{false≢true, eq-eqb, eqb-true}
use Rattle.std.proofs.lemmas.List.{get_or_default}
use Rattle.model.specs.Graph.{has_number}
use Rattle.plan.proofs.FilesThere.{all_taken}
use Rattle.plan.proofs.Staying.{absent_next, without_at, without_none}
use Rattle.plan.proofs.stay.place_of.Goals as goal

pub returns-then-is_path-clause-found : goal.returns-then-is_path-clause-found
returns-then-is_path-clause-found c =
    let files = c.args.files.now in
    let place = c.loop-place.place in
    let x = c.index-files-place.result in
    without_at c.args.file place files c.requires c.loop-place-test.true
    (sym (c.index-files-place.is ∙ get_or_default files place x 0 c.loop-place-test.true) ∙ eqb-true x c.args.file (sym c.is_path.ensures ∙ c.if-is_path.true))

pub loop-place-preserved : goal.loop-place-preserved
loop-place-preserved c =
    let files = c.args.files.now in
    let place = c.loop-place.place in
    let x = c.index-files-place.result in
    absent_next c.args.file x place files c.loop-place-test.true (c.index-files-place.is ∙ get_or_default files place x 0 c.loop-place-test.true)
    (λ same. false≢true (sym c.if-is_path.false ∙ (c.is_path.ensures ∙ eq-eqb x c.args.file same))) c.loop-place.invariant

pub returns-clause-none : goal.returns-clause-none
returns-clause-none c =
    without_none c.args.file c.args.files.now
    (subst (λ (l : List ℕ). has_number l c.args.file ≡ false) (all_taken c.args.files.now c.loop-place.place c.loop-place-test.false) c.loop-place.invariant)
