use Rattle.std.proofs.Common.{◌≡◌, ◌≢◌, [], ℕ, List, true, false, length, sym, ap, ◌∙◌, subst}
use Rattle.std.proofs.lemmas.Bool.{eqb-true, eq-eqb, false≢true}
use Rattle.model.specs.Graph.{has}
use Rattle.paths.specs.Told.{texts_at}
use Rattle.tools.specs.Clean.{AddsJust}
use Rattle.tools.proofs.Adding.{length_none}
use Rattle.tools.proofs.Cleans.{edge_adds, edge_kept, edge_none}
use Rattle.tools.proofs.Putting.{on_ok}
use Rattle.tools.proofs.cleaning.add_edge.Goals as goal

pub returns-then-is_empty : goal.returns-then-is_empty
returns-then-is_empty c =
    edge_none c.args.declared.now c.args.generated c.args.edge c.args.paths.now (sym c.outputs_at-outputs.ensures ∙ length_none c.outputs_at-outputs.result.now (eqb-true _ 0 (sym c.is_empty.ensures ∙ c.if-is_empty.true)))

pub returns-then-not-may_clean : goal.returns-then-not-may_clean
returns-then-not-may_clean c = edge_kept c.args.declared.now c.args.generated c.args.edge c.args.paths.now (λ free. false≢true (sym c.if-not-may_clean.true ∙ c.may_clean.ensures.1 free))

pub returns : goal.returns
returns c =
    let declared = c.args.declared.now in
    let old = c.args.paths.now in
    let mid = c.add_outputs.new.paths in
    let new = c.add_own_files.new.paths in
    let some = λ (none : c.outputs_at-outputs.result.now ≡ []). false≢true (sym c.if-is_empty.false ∙ (c.is_empty.ensures ∙ eq-eqb _ 0 (ap length none))) in
    on_ok c.add_own_files.result
    (λ own. edge_adds declared c.args.generated c.args.edge old mid new (c.may_clean.ensures.0 c.if-not-may_clean.false) (subst (λ (l : List ℕ). l ≢ []) c.outputs_at-outputs.ensures some)
    (subst (λ (l : List ℕ). AddsJust old mid (λ t. (t ≢ []) × (has (texts_at declared.graph.manifest.paths l) t ≡ true))) c.outputs_at-outputs.ensures c.in_ok-add_outputs.ensures) own)
    c.add_own_files.ensures
