use Rattle.std.proofs.Common.{◌≡◌, ◌∙◌, ◌<◌, ℕ, nat_lt, arith, subst, sym, true, MatchOption, Some, slice_get, false}
use Rattle.std.proofs.lemmas.Bool.{false≢true}
use Rattle.model.specs.Graph.{has_number, is_named}
use Rattle.paths.specs.Lists.{all_paths}
use Rattle.paths.specs.Told.{edges_of}
use Rattle.paths.proofs.Naming.{unnamed_absent, unnamed_other}
use Rattle.paths.proofs.manifest.Manifest.number_of.Goals as goal
use Rattle.paths.proofs.manifest.Manifest.number_of.Goals.{then-index-self, else-index-self}

lt_true : (a b : ℕ) → a < b → nat_lt a b ≡ true
lt_true a b less = grind (arith, less)

pub returns-in_err-number : goal.returns-in_err-number
returns-in_err-number c =
    let self = c.args.self.now in
    subst (λ r. MatchOption r (is_named (edges_of self.paths self.lines self.actions) c.args.path.now ≡ false) (λ number. (slice_get self.paths number ≡ Some c.args.path.now) × (has_number (all_paths self.lines) number ≡ true))) (sym c.from_residual.ensures)
    (unnamed_absent self.paths self.lines self.actions self.fits self.within c.args.path.now c.in_err-number.ensures.place)

pub returns-else-name : goal.returns-else-name
returns-else-name c =
    let self = c.args.self.now in
    unnamed_other self.paths self.lines self.actions self.fits self.within c.args.path.now c.in_ok-number.number c.in_ok-number.ensures.once c.in_ok-number.ensures.place
    (elim c.if-index-self.branch [
      | then-index-self w ↦ absurd (false≢true (sym c.if-name.false ∙ (w.value-is ∙ lt_true c.index.result c.args.self.now.named w.if-index-self.true)))
      | else-index-self w ↦ sym w.name.ensures ∙ (sym w.value-is ∙ c.if-name.false)
    ])
