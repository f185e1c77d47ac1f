-- The values of rule variables of a build statement, when all is read (manual: "Rule variables").
use Rattle.std.specs.Prelude.{◌≡◌, ℕ, ◌||◌, Bool, true, if◌then◌else◌, List, [], ◌∷◌, map, Option, None, Some, unwrap_or, bytes_eq, codes}
use Rattle.lexer.specs.Quote.{quoted}
use Rattle.scopes.specs.declared.template.Template.{Template}
use Rattle.scopes.specs.declared.template.Rule.{Rule}
use Rattle.scopes.specs.Texts.{joined}
use Rattle.scopes.specs.Rule.{template_of}
use Rattle.scopes.specs.Moves.{Move, or_else, value_at_end}
use Rattle.scopes.specs.Use.{is_special, is_unquoted, unless_bound, IsValueAtUse, HasCircle}
use Rattle.scopes.specs.Large.{IsTooLargeAtUse}
use Rattle.manifest.specs.declared.values.Values.{Values}
use Rattle.manifest.specs.Expansion.{bound}
use Rattle.manifest.specs.States.{Build}

-- the text of the rule that a name stands for; what the block binds goes before it
abbrev pub opened_in : Build → Rule → List ℕ → Option Template
opened_in build rule name = if is_special name then None else unless_bound (bound build.block name) (template_of rule name)

-- paths as the value asked for shows them
abbrev pub shown : List ℕ → List (List ℕ) → List (List ℕ)
shown asked paths = if is_unquoted asked then paths else map quoted paths

abbrev pub special_in : Build → List ℕ → List ℕ → Option (List ℕ)
special_in build asked name =
    if bytes_eq name (codes "in") then Some (joined (32 ∷ []) (shown asked build.paths.explicit_inputs))
    else (if bytes_eq name (codes "out") then Some (joined (32 ∷ []) (shown asked build.paths.explicit_outputs))
    else (if bytes_eq name (codes "in_newline") then Some (joined (10 ∷ []) (shown asked build.paths.explicit_inputs)) else None))

-- what any other name stands for: paths; what the block binds; the value at the end of the statement's scope; nothing
abbrev pub fixed_in : Build → List Move → List ℕ → List ℕ → List ℕ
fixed_in build past asked name =
    unwrap_or (special_in build asked name) (unwrap_or (or_else (bound build.block name) (value_at_end past build.scope name)) [])

-- the variables that are expanded: all that a rule may bind but `generator` and `msvc_deps_prefix`, which mean nothing here
abbrev pub is_expanded : List ℕ → Bool
is_expanded name =
    bytes_eq name (codes "command") || (bytes_eq name (codes "depfile") || (bytes_eq name (codes "deps") || (bytes_eq name (codes "dyndep")
    || (bytes_eq name (codes "description") || (bytes_eq name (codes "pool") || (bytes_eq name (codes "restat")
    || (bytes_eq name (codes "rspfile") || bytes_eq name (codes "rspfile_content"))))))))

-- some variable leads into a circle of the rule's texts
pub record LeadsIntoCircle (opens : List ℕ → Option Template) : Type 0 where
  pub name : List ℕ
  pub expanded : is_expanded name ≡ true
  pub circle : HasCircle opens name

-- some variable has a value that is too large
pub record HasLargeValue (build : Build) (rule : Rule) (past : List Move) : Type 0 where
  pub name : List ℕ
  pub expanded : is_expanded name ≡ true
  pub large : IsTooLargeAtUse (opened_in build rule) (fixed_in build past name) name

abbrev pub IsValueOf : Build → Rule → List Move → List ℕ → List ℕ → Type 0
IsValueOf build rule past name value = IsValueAtUse (opened_in build rule) (fixed_in build past name) name value

pub record AreValuesOf (build : Build) (rule : Rule) (past : List Move) (values : Values) : Type 0 where
  pub command : IsValueOf build rule past (codes "command") values.command
  pub depfile : IsValueOf build rule past (codes "depfile") values.depfile
  pub deps : IsValueOf build rule past (codes "deps") values.deps
  pub dyndep : IsValueOf build rule past (codes "dyndep") values.dyndep
  pub description : IsValueOf build rule past (codes "description") values.description
  pub pool : IsValueOf build rule past (codes "pool") values.pool
  pub restat : IsValueOf build rule past (codes "restat") values.restat
  pub rspfile : IsValueOf build rule past (codes "rspfile") values.rspfile
  pub rspfile_content : IsValueOf build rule past (codes "rspfile_content") values.rspfile_content
