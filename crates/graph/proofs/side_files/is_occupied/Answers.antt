use Rattle.std.proofs.Common.{◌∙◌, inl, inr, List, ℕ, suc, sym, subst}
use Rattle.paths.specs.Told.{graph_of}
use Rattle.graph.specs.Namings.{declared_file}
use Rattle.graph.specs.Occupying.{IsNamedBeside, IsOwnFile}
use Rattle.graph.proofs.Parts.{nothing_of}
use Rattle.graph.proofs.Beside.{not_empty}
use Rattle.graph.proofs.side_files.is_occupied.Goals as goal

pub returns-then-is_empty-clause-no : goal.returns-then-is_empty-clause-no
returns-then-is_empty-clause-no c = λ no occupied. occupied.0 (sym c.file_at-path.ensures ∙ nothing_of c.file_at-path.result.now (sym c.if-is_empty.true ∙ c.is_empty.ensures))

pub returns-then-is_named_beside-clause-yes : goal.returns-then-is_named_beside-clause-yes
returns-then-is_named_beside-clause-yes c = λ yes. (
  not_empty c.file_at-path.result.now (declared_file c.args.manifest.now c.args.edge c.args.file) c.file_at-path.ensures (sym c.is_empty.ensures ∙ c.if-is_empty.false),
  inl (subst (λ (p : List ℕ). IsNamedBeside (graph_of c.args.manifest.now).edges (suc c.args.edge) p) c.file_at-path.ensures (c.is_named_beside.ensures.yes c.if-is_named_beside.true)),
)

pub returns-clause-yes : goal.returns-clause-yes
returns-clause-yes c = λ yes. (
  not_empty c.file_at-path.result.now (declared_file c.args.manifest.now c.args.edge c.args.file) c.file_at-path.ensures (sym c.is_empty.ensures ∙ c.if-is_empty.false),
  inr (subst (IsOwnFile c.args.start.now) (c.as_bytes.ensures.value ∙ c.file_at-path.ensures) (c.is_own.ensures.yes yes)),
)

pub returns-clause-no : goal.returns-clause-no
returns-clause-no c = λ no occupied. elim occupied.1 [
  | inl named ↦ c.is_named_beside.ensures.no c.if-is_named_beside.false (subst (λ (p : List ℕ). IsNamedBeside (graph_of c.args.manifest.now).edges (suc c.args.edge) p) (sym {A = List ℕ} c.file_at-path.ensures) named)
  | inr own ↦ c.is_own.ensures.no no (subst (IsOwnFile c.args.start.now) (sym {A = List ℕ} (c.as_bytes.ensures.value ∙ c.file_at-path.ensures)) own)
]
