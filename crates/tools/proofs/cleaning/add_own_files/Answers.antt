use Rattle.std.proofs.Common.{◌≡◌, ◌≢◌, [], ℕ, List, sym, subst}
use Rattle.tools.specs.Clean.{AddsJust}
use Rattle.tools.proofs.Cleans.{own_adds, own_none}
use Rattle.tools.proofs.Putting.{on_ok}
use Rattle.tools.proofs.cleaning.add_own_files.Goals as goal

pub returns-in_default : goal.returns-in_default
returns-in_default c = own_none c.args.declared.now c.args.edge c.args.paths.now (sym c.in_default.ensures)

pub returns : goal.returns
returns c =
    let old = c.args.paths.now in
    let mid = c.add_text.new.paths in
    let new = c.add_text-2.new.paths in
    on_ok c.add_text-2.result
    (λ second. own_adds c.args.declared.now c.args.edge c.in-Some.command.now old mid new (sym c.in-Some.ensures)
    (subst (λ (q : List ℕ). AddsJust old mid (λ t. (t ≢ []) × (t ≡ q))) c.as_str.ensures c.in_ok-add_text.ensures)
    (subst (λ (q : List ℕ). AddsJust mid new (λ t. (t ≢ []) × (t ≡ q))) c.as_str-2.ensures second))
    c.add_text-2.ensures
