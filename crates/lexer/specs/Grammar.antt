-- How grammars are put together. A grammar says of a text what its front says, and what stands behind that
-- front; or which fault stands there, and at which place. So a faulty text has a reading too.
use Rattle.std.specs.Prelude.{◌≡◌, ℕ, Bool, true, false, List, [], ◌∷◌}
use Rattle.lexer.specs.declared.fault.FaultKind.{FaultKind}

pub data Outcome (X : Type 0) : Type 0 where
  Reached : X → List ℕ → Outcome X
  Broken : FaultKind → List ℕ → Outcome X

abbrev pub Grammar : Type 0 → Type 1
Grammar X = List ℕ → Outcome X → Type 0

-- the reading is computed
abbrev pub Is : {X : Type 0} → (List ℕ → Outcome X) → Grammar X
Is reading bytes outcome = outcome ≡ reading bytes

-- nothing is taken
abbrev pub Give : {X : Type 0} → X → Grammar X
Give value bytes outcome = outcome ≡ Reached value bytes

-- one behind another: the first fault is the text's
pub data Then {X Y : Type 0} (First : List ℕ → Outcome X → Type 0) (Next : X → List ℕ → Outcome Y → Type 0) (bytes : List ℕ) : Outcome Y → Type 0 where
  goes_on : {value : X} {next : List ℕ} {outcome : Outcome Y} → First bytes (Reached value next) → Next value next outcome → Then First Next bytes outcome
  is_stuck : {kind : FaultKind} {rest : List ℕ} → First bytes (Broken kind rest) → Then First Next bytes (Broken kind rest)

-- one or the other
abbrev pub Either : {X : Type 0} → Bool → (List ℕ → Outcome X → Type 0) → (List ℕ → Outcome X → Type 0) → Grammar X
Either true First Second = First
Either false First Second = Second

-- items that stand one behind another
abbrev pub AreInRow : {X S : Type 0} → (X → S → S → Type 0) → List X → S → S → Type 0
AreInRow Stands [] before after = before ≡ after
AreInRow {S = S} Stands (item ∷ items) before after = (next : S) × Stands item before next × AreInRow Stands items next after

-- an item of a row that has not ended
abbrev pub IsItem : {X : Type 0} → (List ℕ → Outcome X → Type 0) → (List ℕ → Bool) → X → List ℕ → List ℕ → Type 0
IsItem One ends item bytes next = (ends bytes ≡ false) × One bytes (Reached item next)

-- items up to where the row ends, or up to one that has a fault
abbrev pub Many : {X : Type 0} → (List ℕ → Outcome X → Type 0) → (List ℕ → Bool) → Grammar (List X)
Many One ends bytes (Reached items rest) = AreInRow (IsItem One ends) items bytes rest × (ends rest ≡ true)
Many {X = X} One ends bytes (Broken kind rest) = (items : List X) × (place : List ℕ) × AreInRow (IsItem One ends) items bytes place × (ends place ≡ false) × One place (Broken kind rest)

-- a text has at most one reading
abbrev pub IsUnique : {X : Type 0} → (List ℕ → Outcome X → Type 0) → Type 0
IsUnique {X = X} One = (bytes : List ℕ) (a b : Outcome X) → One bytes a → One bytes b → a ≡ b
