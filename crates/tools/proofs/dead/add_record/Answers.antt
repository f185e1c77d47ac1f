use Rattle.std.proofs.Common.{◌≡◌, ℕ, List, Some, true, slice_get, subst, sym}
use Rattle.model.specs.Graph.{has}
use Rattle.log_text.specs.Kept.{Table, texts_at}
use Rattle.log_text.specs.DepsLog.{Keeps, told_found, tolds}
use Rattle.log_text.specs.declared.deps.Deps.{Deps}
use Rattle.tools.specs.Clean.{AddsJust}
use Rattle.tools.proofs.Burying.{lists_none, lists_some}
use Rattle.tools.proofs.Putting.{on_ok}
use Rattle.tools.proofs.dead.add_record.Goals as goal

pub returns-in_default : goal.returns-in_default
returns-in_default c = λ ds keeps. lists_none ds c.args.number c.args.listed.now (c.in_default.ensures ds (subst (λ (t : Table Deps). Keeps ds t) (sym c.log.ensures) keeps))

pub returns : goal.returns
returns c =
    let log = c.args.records.now.logs.deps_log.log in
    let old = c.args.listed.now in
    let new = c.add_listed.new.listed in
    on_ok c.add_listed.result (λ adds. λ ds keeps.
    let told = c.in-Some.ensures ds (subst (λ (t : Table Deps). Keeps ds t) (sym c.log.ensures) keeps) in
    lists_some log.outputs c.in-Some.deps.now ds c.args.number old new (subst (λ (t : Table Deps). told_found t (Some c.in-Some.deps) ≡ slice_get (tolds ds) c.args.number) c.log.ensures told)
    (subst (λ (numbers : List ℕ). AddsJust old new (λ text. has (texts_at log.outputs numbers) text ≡ true)) c.as_slice.ensures adds))
    c.add_listed.ensures
