-- What the maps of one scope say.
use Rattle.std.specs.Prelude.{◌≡◌, ℕ, List, Option, None}
use Rattle.std.specs.Option.{option_map}
use Rattle.indexmap.specs.IndexMap.{get_by_text}
use Rattle.scopes.specs.declared.template.Rule.{Rule}
use Rattle.scopes.specs.declared.scope.Scope.{Scope}

abbrev pub variable_of : Scope → List ℕ → Option (List ℕ)
variable_of scope name = get_by_text scope.variables name

abbrev pub rule_of : Scope → List ℕ → Option Rule
rule_of scope name = option_map (λ found. found.value) (get_by_text scope.rules name)

-- a scope in which nothing was said
pub record IsNewScope (scope : Scope) (around : ℕ) : Type 0 where
  pub around_is : scope.around ≡ around
  pub variables : (name : List ℕ) → variable_of scope name ≡ None
  pub rules : (name : List ℕ) → rule_of scope name ≡ None
