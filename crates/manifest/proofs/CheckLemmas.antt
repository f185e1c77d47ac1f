-- What is noted of paths is what their reading refuses.
use Rattle.std.proofs.Common.{◌≡◌, ◌||◌, true, false, ℕ, Bool, List, refl, ap, subst, ◌∙◌}
use Rattle.lexer.specs.declared.fault.FaultKind.TheVariants.{TooLarge, EmptyPath}
use Rattle.lexer.specs.Said.{Fragments}
use Rattle.manifest.specs.declared.fault.FaultKind.TheVariants.{Line}
use Rattle.manifest.specs.declared.fault.FileFault.{FileFault}
use Rattle.manifest.specs.declared.fault.ReadError.{ReadError}
use Rattle.manifest.specs.declared.fault.ReadError.TheVariants.{Memory, Site, Refused}
use Rattle.manifest.specs.declared.path_reader.PathReader.{PathReader}
use Rattle.manifest.specs.Readings.{Outcome, Place, Unless, Give, fault_at}
use Rattle.manifest.specs.Readings.Outcome.{Reached, Broken}
use Rattle.manifest.specs.Readings.Unless.{refused, in_order}
use Rattle.manifest.specs.Answer.{IsFaultOf}
use Rattle.manifest.specs.Expansion.{some_text, is_empty, is_large}
use Rattle.manifest.specs.Flags.{FlagsAfter, NoneIsWrong}
use Rattle.manifest.proofs.TextLemmas.{not_true}

-- ---- what `Unless` says of a fault, and of a value

module _ {X Y : Type 0} (bad : Type 0) (fault : FileFault) (Old : Outcome X → Type 0) (New : Outcome Y → Type 0) where
  told_at : (told : FileFault) (outcome : Outcome X) → outcome ≡ Broken told → ((other : FileFault) → Old (Broken other) → New (Broken other))
      → Unless bad fault Old outcome → Unless bad fault New (Broken told)
  told_at told outcome is wider (refused is_bad) =
      let same : fault ≡ told = cc in subst (λ (other : FileFault). Unless bad fault New (Broken other)) same (refused is_bad)
  told_at told outcome is wider (in_order good next) = in_order good (wider told (subst Old is next))

  pub unless_told : (told : FileFault) → ((other : FileFault) → Old (Broken other) → New (Broken other)) → Unless bad fault Old (Broken told) → Unless bad fault New (Broken told)
  unless_told told wider is = told_at told _ refl wider is

not_false : (flag : Bool) → (flag ≡ true → ⊥) → flag ≡ false
not_false true good = absurd (good refl)
not_false false good = refl

module _ {X : Type 0} (bad : Type 0) (fault : FileFault) (Next : Outcome X → Type 0) where
  good_at : (value : X) (outcome : Outcome X) → outcome ≡ Reached value → Unless bad fault Next outcome → (bad → ⊥) × Next (Reached value)
  good_at value outcome is (refused is_bad) = absurd cc
  good_at value outcome is (in_order good next) = (good, subst Next is next)

  pub unless_good : (value : X) → Unless bad fault Next (Reached value) → (bad → ⊥) × Next (Reached value)
  unless_good value is = good_at value _ refl is

-- ---- the check of what is noted

no_fault : {Y : Type 0} (New : Outcome Y → Type 0) (told : FileFault) → Give (tt {0}) (Broken told) → New (Broken told)
no_fault New told is = absurd cc

-- the fault is that of paths of which this is so
pub noted_fault : {Y : Type 0} (place : Place) (has_empty has_large : Bool) (empty large : Bool) (Next : Outcome Y → Type 0) (error : ReadError)
    → has_empty ≡ empty → has_large ≡ large → IsFaultOf (NoneIsWrong place has_empty has_large) error
    → IsFaultOf (Unless (empty ≡ true) (fault_at place (Line EmptyPath)) (Unless (large ≡ true) (fault_at place (Line TooLarge)) Next)) error
noted_fault place has_empty has_large empty large Next Memory is_empty is_large is = tt
noted_fault place has_empty has_large empty large Next (Site fault) is_empty is_large is = is
noted_fault place has_empty has_large empty large Next (Refused fault) is_empty is_large is =
    let here : Unless (empty ≡ true) (fault_at place (Line EmptyPath)) (Unless (large ≡ true) (fault_at place (Line TooLarge)) (Give (tt {0}))) (Broken fault) = rw (is_empty, is_large) at is in
    unless_told _ _ _ _ fault (λ other. unless_told _ _ _ _ other (no_fault Next)) here

-- nothing is noted
pub none_noted : (place : Place) (has_empty has_large : Bool) → NoneIsWrong place has_empty has_large (Reached (tt {0})) → (has_empty ≡ false) × (has_large ≡ false)
none_noted place has_empty has_large is =
    let first = unless_good _ _ _ (tt {0}) is in
    let next = unless_good _ _ _ (tt {0}) first.1 in
    (not_false has_empty first.0, not_false has_large next.0)

pub none_wrong : {Y : Type 0} (place : Place) (empty large : Bool) (Next : Outcome Y → Type 0) (outcome : Outcome Y) → empty ≡ false → large ≡ false → Next outcome
    → Unless (empty ≡ true) (fault_at place (Line EmptyPath)) (Unless (large ≡ true) (fault_at place (Line TooLarge)) Next) outcome
none_wrong place empty large Next outcome no_empty no_large next = in_order (not_true empty no_empty) (in_order (not_true large no_large) next)

-- what is noted from nothing
pub flags_fresh : (old new : PathReader) (value : List ℕ → List ℕ) (texts : List Fragments) → old.has_empty ≡ false → old.has_large ≡ false
    → FlagsAfter old new value texts → (new.has_empty ≡ some_text is_empty value texts) × (new.has_large ≡ some_text is_large value texts)
flags_fresh old new value texts empty large flags =
    (flags.empty ∙ ap (λ (flag : Bool). flag || some_text is_empty value texts) empty, flags.large ∙ ap (λ (flag : Bool). flag || some_text is_large value texts) large)
