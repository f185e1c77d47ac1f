-- The answer of a reading from those of its parts.
use Rattle.std.proofs.Common.{◌≡◌, List, [], ◌∷◌, ◌++◌, Option, Some, None, refl, sym, ap, subst}
use Rattle.manifest.specs.declared.fault.FaultKind.{FaultKind}
use Rattle.manifest.specs.declared.fault.FileFault.{FileFault}
use Rattle.manifest.specs.declared.fault.ReadError.{ReadError}
use Rattle.manifest.specs.declared.fault.ReadError.TheVariants.{Memory, Site, Refused}
use Rattle.manifest.specs.Readings.{Outcome, Give, Refuse, Unless, Then, Where, Cut, Each, Place, fault_at}
use Rattle.manifest.specs.Readings.Outcome.{Reached, Broken}
use Rattle.manifest.specs.Readings.Unless.{refused, in_order}
use Rattle.manifest.specs.Readings.Then.{goes_on, stops}
use Rattle.manifest.specs.Readings.Where.{with_value}
use Rattle.manifest.specs.Places.{IsFaultAt}
use Rattle.manifest.specs.Answer.{IsFaultOf}

-- a value and a fault are two outcomes
pub apart : {X : Type 0} (outcome : Outcome X) (value : X) (fault : FileFault) → outcome ≡ Reached value → outcome ≡ Broken fault → ⊥
apart outcome value fault one other = cc

abbrev broken : (X : Type 0) → FileFault → Outcome X
broken X fault = Broken fault

-- ---- what one reading allows, another does

pub fault_in_wider : {X Y : Type 0} (R : Outcome X → Type 0) (S : Outcome Y → Type 0) (error : ReadError)
    → ((fault : FileFault) → R (Broken fault) → S (Broken fault)) → IsFaultOf R error → IsFaultOf S error
fault_in_wider R S Memory wider is = tt
fault_in_wider R S (Site fault) wider is = is
fault_in_wider R S (Refused fault) wider is = wider fault is

-- ---- one after the other

module _ {X Y : Type 0} (First : Outcome X → Type 0) (Next : X → Outcome Y → Type 0) where
  pub then_ok : (value : X) (outcome : Outcome Y) → First (Reached value) → Next value outcome → Then First Next outcome
  then_ok value outcome first next = goes_on first next

  -- the first refuses
  pub then_fault : (error : ReadError) → IsFaultOf First error → IsFaultOf (Then First Next) error
  then_fault Memory is = tt
  then_fault (Site fault) is = is
  then_fault (Refused fault) is = stops is

  -- the first gives the value, and the second refuses
  pub then_next_fault : (value : X) (error : ReadError) → First (Reached value) → IsFaultOf (Next value) error → IsFaultOf (Then First Next) error
  then_next_fault value Memory first is = tt
  then_next_fault value (Site fault) first is = is
  then_next_fault value (Refused fault) first is = goes_on first is

-- ---- a fault where something is bad

module _ {X : Type 0} (bad : Type 0) (fault : FileFault) (Next : Outcome X → Type 0) where
  pub unless_ok : (outcome : Outcome X) → (bad → ⊥) → Next outcome → Unless bad fault Next outcome
  unless_ok outcome good is = in_order good is

  -- it is bad, and the fault is told
  pub unless_bad : (error : ReadError) → bad → IsFaultOf (Refuse {X = X} fault) error → IsFaultOf (Unless bad fault Next) error
  unless_bad Memory is_bad is = tt
  unless_bad (Site site) is_bad is = is
  unless_bad (Refused other) is_bad is = subst (λ (outcome : Outcome X). Unless bad fault Next outcome) (sym is) (refused is_bad)

  pub unless_fault : (error : ReadError) → (bad → ⊥) → IsFaultOf Next error → IsFaultOf (Unless bad fault Next) error
  unless_fault Memory good is = tt
  unless_fault (Site site) good is = is
  unless_fault (Refused other) good is = in_order good is

-- a refusal at the place
pub refuse_at : (X : Type 0) (place : Place) (kind : FaultKind) (error : ReadError)
    → IsFaultAt place kind error → IsFaultOf (Refuse {X = X} (fault_at place kind)) error
refuse_at X place kind Memory is = tt
refuse_at X place kind (Site site) is = absurd is
refuse_at X place kind (Refused other) is = ap (broken X) is

-- it is bad, and the place is refused for it
pub unless_at : {X : Type 0} (bad : Type 0) (Next : Outcome X → Type 0) (place : Place) (kind : FaultKind) (error : ReadError)
    → bad → IsFaultAt place kind error → IsFaultOf (Unless bad (fault_at place kind) Next) error
unless_at {X = X} bad Next place kind error is_bad is = unless_bad bad (fault_at place kind) Next error is_bad (refuse_at X place kind error is)

-- ---- some value that fits

module _ {X Y : Type 0} (Fits : X → Type 0) (Next : X → Outcome Y → Type 0) where
  pub where_ok : (value : X) (outcome : Outcome Y) → Fits value → Next value outcome → Where Fits Next outcome
  where_ok value outcome fits is = with_value fits is

-- ---- a fault that was found before (`stop_at` answers `Cut behind (Give tt)`)

abbrev pub Stops : Option FileFault → Outcome (Unit {0}) → Type 0
Stops behind = Cut behind (Give tt)

module _ {X : Type 0} (Next : Outcome X → Type 0) where
  -- it is told
  pub cut_fault : (behind : Option FileFault) (error : ReadError) → IsFaultOf (Stops behind) error → IsFaultOf (Cut behind Next) error
  cut_fault None Memory is = tt
  cut_fault (Some found) Memory is = tt
  cut_fault None (Site fault) is = is
  cut_fault (Some found) (Site fault) is = is
  cut_fault None (Refused fault) is = absurd (apart (Broken fault) tt fault is refl)
  cut_fault (Some found) (Refused fault) is = let same : fault ≡ found = cc in ap (broken X) same

  -- there was none
  pub cut_ok : (behind : Option FileFault) (outcome : Outcome X) → Stops behind (Reached tt) → Next outcome → Cut behind Next outcome
  cut_ok None outcome passed is = is
  cut_ok (Some found) outcome passed is = absurd (apart (Reached tt) tt found refl passed)

  pub cut_next_fault : (behind : Option FileFault) (error : ReadError) → Stops behind (Reached tt) → IsFaultOf Next error → IsFaultOf (Cut behind Next) error
  cut_next_fault None error passed is = is
  cut_next_fault (Some found) error passed is = absurd (apart (Reached tt) tt found refl passed)

-- ---- each of these

module _ {X S : Type 0} (One : X → S → Outcome S → Type 0) where
  -- the first of them are passed, and then come the others
  pub each_append : (xs ys : List X) (before between : S) (outcome : Outcome S)
      → Each One xs before (Reached between) → Each One ys between outcome → Each One (xs ++ ys) before outcome
  each_append [] ys before between outcome first next =
      let same : between ≡ before = cc in subst (λ (s : S). Each One ys s outcome) same next
  each_append (x ∷ xs) ys before between outcome (goes_on one more) next = goes_on one (each_append xs ys _ between outcome more next)

  -- a fault among the first is that of all
  pub each_broken_append : (xs ys : List X) (before : S) (fault : FileFault) → Each One xs before (Broken fault) → Each One (xs ++ ys) before (Broken fault)
  each_broken_append [] ys before fault is = absurd (apart (Broken fault) before fault is refl)
  each_broken_append (x ∷ xs) ys before fault (goes_on one more) = goes_on one (each_broken_append xs ys _ fault more)
  each_broken_append (x ∷ xs) ys before fault (stops one) = stops one

  pub each_fault_append : (xs ys : List X) (before : S) (error : ReadError) → IsFaultOf (Each One xs before) error → IsFaultOf (Each One (xs ++ ys) before) error
  each_fault_append xs ys before error is =
      fault_in_wider (Each One xs before) (Each One (xs ++ ys) before) error (λ fault. each_broken_append xs ys before fault) is

  -- one alone
  pub each_one : (x : X) (before : S) (outcome : Outcome S) → One x before outcome → Each One (x ∷ []) before outcome
  each_one x before (Reached value) is = goes_on is refl
  each_one x before (Broken fault) is = stops is

  pub each_one_fault : (x : X) (before : S) (error : ReadError) → IsFaultOf (One x before) error → IsFaultOf (Each One (x ∷ []) before) error
  each_one_fault x before error is = fault_in_wider (One x before) (Each One (x ∷ []) before) error (λ fault. each_one x before (Broken fault)) is
