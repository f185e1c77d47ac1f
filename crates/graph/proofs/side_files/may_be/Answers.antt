use Rattle.std.proofs.Common.{◌∙◌, inl, inr, List, ℕ, sym, subst}
use Rattle.graph.specs.Occupying.{IsOwnFile}
use Rattle.graph.proofs.Beside.{unnamed}
use Rattle.graph.proofs.Parts.{nothing_of}
use Rattle.graph.proofs.side_files.may_be.Goals as goal

pub returns-then-is_empty : goal.returns-then-is_empty
returns-then-is_empty c = λ no i occupied. occupied.0 (nothing_of c.args.path.now (sym c.if-is_empty.true ∙ c.is_empty.ensures))

pub returns-in-None : goal.returns-in-None
returns-in-None c = λ no i occupied. elim occupied.1 [
  | inl named ↦ unnamed c.args.manifest.now c.args.path.now c.in-None.ensures.place i named
  | inr own ↦ c.is_own.ensures.no no (subst (IsOwnFile c.args.start.now) (sym {A = List ℕ} c.as_bytes.ensures.value) own)
]
