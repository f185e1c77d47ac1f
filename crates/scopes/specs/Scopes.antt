-- What the maps of all scopes say of names, and which moves they stand for.
use Rattle.std.specs.Prelude.{◌≡◌, ◌≤◌, ◌⊎◌, ℕ, zero, suc, List, [], ◌∷◌, reverse, length, slice_get, Option, None, Some, IsSome, codes}
use Rattle.std.specs.Option.{option_and_then}
use Rattle.scopes.specs.declared.template.Rule.{Rule}
use Rattle.scopes.specs.declared.scope.Scope.{Scope}
use Rattle.scopes.specs.declared.all_scopes.Scopes.{Scopes}
use Rattle.scopes.specs.Maps.{variable_of, rule_of}
use Rattle.scopes.specs.Moves.{Move, entered, open_scopes, scopes_from, last_in, variable, rule_named, IsLawful}

-- what the maps of scope s say
abbrev pub variable_in : List Scope → ℕ → List ℕ → Option (List ℕ)
variable_in scopes s name = option_and_then (λ (scope : Scope). variable_of scope name) (slice_get scopes s)

abbrev pub rule_in : List Scope → ℕ → List ℕ → Option Rule
rule_in scopes s name = option_and_then (λ (scope : Scope). rule_of scope name) (slice_get scopes s)

-- the scopes from the one with this number, less one, outwards; none for 0
abbrev pub scopes_around : List Move → ℕ → List ℕ
scopes_around past zero = []
scopes_around past (suc s) = scopes_from past s

-- a scope knows the one in which it was entered, which has a lower number
pub record IsLinked (past : List Move) (s : ℕ) (scope : Scope) : Type 0 where
  pub lower : scope.around ≤ s
  pub links : scopes_from past s ≡ s ∷ scopes_around past scope.around

pub record IsScopesAt (scopes : List Scope) (present : ℕ) (outer : List ℕ) (past : List Move) : Type 0 where
  pub lawful : IsLawful past
  pub number : length scopes ≡ suc (entered past)
  pub opened : open_scopes past ≡ present ∷ reverse outer
  pub around : scopes_from past present ≡ open_scopes past
  pub linked : (s : ℕ) (scope : Scope) → slice_get scopes s ≡ Some scope → IsLinked past s scope
  pub variables : (s : ℕ) (name : List ℕ) → variable_in scopes s name ≡ last_in (variable name) past s
  pub rules : (s : ℕ) (name : List ℕ) → rule_in scopes s name ≡ last_in (rule_named name) past s

-- the scopes after these moves, the latest first
abbrev pub IsScopesOf : Scopes → List Move → Type 0
IsScopesOf scopes past = IsScopesAt scopes.scopes.items scopes.present scopes.outer.items past

-- ---- what is so whatever was done to them

abbrev pub Always : Scopes → (List Move → Type 0) → Type 0
Always scopes Holds = (past : List Move) → IsScopesOf scopes past → Holds past

-- one move was made
abbrev pub WentOn : Scopes → Scopes → Move → Type 0
WentOn old new move = Always old (λ past. IsScopesOf new (move ∷ past))

-- no move was made
abbrev pub AreSameScopes : Scopes → Scopes → Type 0
AreSameScopes old new = Always old (λ past. IsScopesOf new past)

-- the open scope itself has a rule of this name, or has none
abbrev pub HaveRule : Scopes → List ℕ → Type 0
HaveRule scopes name = Always scopes (λ past. IsSome (last_in (rule_named name) past scopes.present))

abbrev pub HaveNoRule : Scopes → List ℕ → Type 0
HaveNoRule scopes name = Always scopes (λ past. last_in (rule_named name) past scopes.present ≡ None)

-- the open scope may declare no rule of this name
abbrev pub IsTakenIn : Scopes → List ℕ → Type 0
IsTakenIn scopes name = (name ≡ codes "phony") ⊎ HaveRule scopes name
