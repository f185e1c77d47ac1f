-- How what build files say is put together. A reading says of what is read what it comes to: a value, or the first fault.
-- So faulty files have a reading too, and each says of which conditions hold and which do not.
use Rattle.std.specs.Prelude.{◌≡◌, ℕ, List, [], ◌∷◌, Option, None, Some}
use Rattle.manifest.specs.declared.fault.FaultKind.{FaultKind}
use Rattle.manifest.specs.declared.fault.FileFault.{FileFault}

pub data Outcome (X : Type 0) : Type 0 where
  Reached : X → Outcome X
  Broken : FileFault → Outcome X

abbrev pub Reading : Type 0 → Type 1
Reading X = Outcome X → Type 0

abbrev pub Give : {X : Type 0} → X → Reading X
Give value outcome = outcome ≡ Reached value

abbrev pub Refuse : {X : Type 0} → FileFault → Reading X
Refuse fault outcome = outcome ≡ Broken fault

-- a fault where this is so, and only there
pub data Unless {X : Type 0} (bad : Type 0) (fault : FileFault) (Next : Outcome X → Type 0) : Outcome X → Type 0 where
  refused : bad → Unless bad fault Next (Broken fault)
  in_order : {outcome : Outcome X} → (bad → ⊥) → Next outcome → Unless bad fault Next outcome

-- one after the other: the first fault is the whole's
pub data Then {X Y : Type 0} (First : Outcome X → Type 0) (Next : X → Outcome Y → Type 0) : Outcome Y → Type 0 where
  goes_on : {value : X} {outcome : Outcome Y} → First (Reached value) → Next value outcome → Then First Next outcome
  stops : {fault : FileFault} → First (Broken fault) → Then First Next (Broken fault)

-- with a value that fits
pub data Where {X Y : Type 0} (Fits : X → Type 0) (Next : X → Outcome Y → Type 0) : Outcome Y → Type 0 where
  with_value : {value : X} {outcome : Outcome Y} → Fits value → Next value outcome → Where Fits Next outcome

-- a fault that was found before is told only here
abbrev pub Cut : {X : Type 0} → Option FileFault → (Outcome X → Type 0) → Reading X
Cut None Next = Next
Cut (Some fault) Next = Refuse fault

-- each of these, one after the other
abbrev pub Each : {X S : Type 0} → (X → S → Outcome S → Type 0) → List X → S → Reading S
Each One [] before = Give before
Each One (item ∷ items) before = Then (One item before) (Each One items)

-- ---- where faults stand

-- a statement's file and line
pub record Place : Type 0 where
  pub file : List ℕ
  pub line : ℕ

abbrev pub fault_at : Place → FaultKind → FileFault
fault_at place kind = record { file = place.file; line = place.line; kind = kind }
