use Rattle.std.proofs.Common.{◌≡◌, ◌≢◌, [], ℕ, List, sym, ◌∙◌, subst}
use Rattle.std.proofs.lemmas.Bool.{false≢true}
use Rattle.tools.specs.Clean.{AddsJust}
use Rattle.tools.proofs.Cleans.{path_adds, path_kept, path_none}
use Rattle.tools.proofs.Putting.{on_ok}
use Rattle.tools.proofs.cleaning.add_target.Goals as goal

pub returns-in_default : goal.returns-in_default
returns-in_default c = path_none c.args.declared.now c.args.generated c.args.output c.args.paths.now (sym c.in_default.ensures.value)

pub returns-then-not-may_clean : goal.returns-then-not-may_clean
returns-then-not-may_clean c =
    path_kept c.args.declared.now c.args.generated c.args.output c.in-Some.edge c.args.paths.now (sym c.in-Some.ensures.value) (λ free. false≢true (sym c.if-not-may_clean.true ∙ c.may_clean.ensures.1 free))

pub returns : goal.returns
returns c =
    let old = c.args.paths.now in
    let mid = c.add_text.new.paths in
    let new = c.add_own_files.new.paths in
    on_ok c.add_own_files.result
    (λ own. path_adds c.args.declared.now c.args.generated c.args.output c.in-Some.edge old mid new (sym c.in-Some.ensures.value) (c.may_clean.ensures.0 c.if-not-may_clean.false)
    (subst (λ (q : List ℕ). AddsJust old mid (λ t. (t ≢ []) × (t ≡ q))) c.text_at.ensures c.in_ok-add_text.ensures) own)
    c.add_own_files.ensures
