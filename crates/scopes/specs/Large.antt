-- The value of a name where a rule is used, one that is too large, and that there is one at most.
use Rattle.std.specs.Prelude.{◌≡◌, ◌<◌, ℕ, List, length, Option}
use Rattle.scopes.specs.declared.all_scopes.Scopes.{Scopes}
use Rattle.scopes.specs.declared.usage.Use.{Use}
use Rattle.scopes.specs.declared.template.Template.{Template}
use Rattle.scopes.specs.Texts.{largest_value}
use Rattle.scopes.specs.Moves.{Move}
use Rattle.scopes.specs.Scopes.{Always}
use Rattle.scopes.specs.Use.{opened, fixed, HasCircle, IsValueAtUse}

-- the name has a value, which has more than 16 MiB
pub record IsTooLargeAtUse (opens : List ℕ → Option Template) (fixed : List ℕ → List ℕ) (name : List ℕ) : Type 0 where
  pub value : List ℕ
  pub is_value : IsValueAtUse opens fixed name value
  pub large : largest_value < length value

-- a name has no two values where texts of the rule are opened so, and none where it leads into a circle
abbrev pub HasOneValue : (List ℕ → Option Template) → (List ℕ → List ℕ) → List ℕ → Type 0
HasOneValue opens fixed name = (one other : List ℕ)
    → IsValueAtUse opens fixed name one → IsValueAtUse opens fixed name other → one ≡ other

abbrev pub HasNoCircle : (List ℕ → Option Template) → (List ℕ → List ℕ) → List ℕ → Type 0
HasNoCircle opens fixed name = (value : List ℕ) → IsValueAtUse opens fixed name value → HasCircle opens name → ⊥

-- ---- whatever was done to the scopes

abbrev pub IsValueIn : Scopes → Use → List ℕ → List ℕ → Type 0
IsValueIn scopes at asked value = Always scopes (λ past. IsValueAtUse (opened at) (fixed at asked past) asked value)

abbrev pub IsTooLargeIn : Scopes → Use → List ℕ → Type 0
IsTooLargeIn scopes at asked = Always scopes (λ past. IsTooLargeAtUse (opened at) (fixed at asked past) asked)
