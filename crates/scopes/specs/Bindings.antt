-- What binding a name does to what names stand for.
use Rattle.std.specs.Prelude.{◌≡◌, ℕ, List, Option, Some, if◌then◌else◌, bytes_eq}

-- the name stands for this value, and each other name for what it stood for
abbrev pub IsBound : {V : Type 0} → (List ℕ → Option V) → (List ℕ → Option V) → List ℕ → V → Type 0
IsBound old new name value = (other : List ℕ) → new other ≡ (if bytes_eq name other then Some value else old other)

-- each name stands for what it stood for
abbrev pub AreSameNames : {V : Type 0} → (List ℕ → Option V) → (List ℕ → Option V) → Type 0
AreSameNames old new = (other : List ℕ) → new other ≡ old other
