use Rattle.std.proofs.Common.{rules, ◌≡◌, ◌≢◌, true, false, ℕ, List, ◌∷◌, refl, ap, sym, subst, ◌∙◌}
use Rattle.std.proofs.lemmas.Result.{err_from_is_err_and}
use Rattle.lexer.specs.Said.{fragments_of}
use Rattle.scopes.specs.Moves.{Bind}
use Rattle.scopes.specs.Scopes.{IsScopesOf}
use Rattle.manifest.specs.declared.fault.FaultKind.TheVariants.{NeedsVersion}
use Rattle.manifest.specs.Readings.Unless.{in_order}
use Rattle.manifest.specs.Declarations.{AsksTooMuch, version_name}
use Rattle.manifest.specs.Numbers.{is_newer}
use Rattle.manifest.specs.Places.{place_of, IsFaultAt}
use Rattle.manifest.specs.States.{with_move}
use Rattle.manifest.specs.Expansion.{text_at}
use Rattle.manifest.proofs.Binds.{unless_fault, unless_at}
use Rattle.manifest.proofs.BindingLemmas.{value_fault, value_given, formed_kept}
use Rattle.manifest.proofs.kept.Declared.read_binding.Goals as goal
use Rattle.manifest.proofs.kept.Declared.read_binding.Goals.{else-eq-via-then-eq+else-is_newer, else-eq-via-else-eq}

pub returns-in_err-text-clause-said : goal.returns-in_err-text-clause-said
returns-in_err-text-clause-said c = λ state is_state.
    let failed = err_from_is_err_and c.from_residual.result c.from_residual.ensures.1 in
    rw (failed.1, failed.2) (value_fault _ _ (text_at state.past (fragments_of c.args.value.now)) _ c.in_err-text.field-0.0 (c.in_err-text.ensures state is_state))

pub returns-then-is_newer-clause-said : goal.returns-then-is_newer-clause-said
returns-then-is_newer-clause-said c = λ state is_state.
    let given = value_given _ _ _ _ (c.in_ok-text.ensures state is_state) in
    let named : c.args.name.now ≡ version_name = search rules in
    let newer : is_newer (text_at state.past (fragments_of c.args.value.now)) ≡ true = ap is_newer (sym given.1 ∙ sym c.as_str.ensures) ∙ sym c.is_newer.ensures ∙ c.if-is_newer.true in
    let told : IsFaultAt (place_of c.args.place.now) (NeedsVersion (text_at state.past (fragments_of c.args.value.now))) c.fault.result =
    subst (λ (text : List ℕ). IsFaultAt (place_of c.args.place.now) (NeedsVersion text) c.fault.result) given.1 c.fault.ensures in
    unless_fault _ _ _ c.fault.result given.0 (unless_at _ _ (place_of c.args.place.now) (NeedsVersion (text_at state.past (fragments_of c.args.value.now))) c.fault.result (named, newer) told)

pub returns-clause-said : goal.returns-clause-said
returns-clause-said c = λ state is_state.
    let given = value_given _ _ _ _ (c.in_ok-text.ensures state is_state) in
    let bound : IsScopesOf c.bind.new.self (Bind c.args.name.now (text_at state.past (fragments_of c.args.value.now)) ∷ state.past) =
    subst (λ (text : List ℕ). IsScopesOf c.bind.new.self (Bind c.args.name.now text ∷ state.past)) given.1 (c.in_ok-bind.ensures.ok state.past is_state.scopes) in
    let enough : AsksTooMuch c.args.name.now (text_at state.past (fragments_of c.args.value.now)) → ⊥ =
    λ asks. elim c.else-eq.branch [
      | else-eq-via-then-eq+else-is_newer w ↦
          let older : is_newer (text_at state.past (fragments_of c.args.value.now)) ≡ false = ap is_newer (sym given.1 ∙ sym w.as_str.ensures) ∙ sym w.is_newer.ensures ∙ w.if-is_newer.false in
          let newer = asks.1 in cc
      | else-eq-via-else-eq w ↦
          let other : c.args.name.now ≢ version_name = search rules in other asks.0
    ] in (
      with_move (Bind c.args.name.now (text_at state.past (fragments_of c.args.value.now))) state,
      record { scopes = bound; edges = is_state.edges; pools = is_state.pools; defaults = is_state.defaults; paths = is_state.paths },
      in_order given.0 (in_order enough refl),
    )

pub returns-clause-formed : goal.returns-clause-formed
returns-clause-formed c = λ formed.
    formed_kept c.args.self.now _ formed.past (Bind c.args.name.now c.in_ok-text.text ∷ formed.past) formed.scopes (c.in_ok-bind.ensures.ok formed.past formed.scopes) refl refl formed.edges refl formed.paths
