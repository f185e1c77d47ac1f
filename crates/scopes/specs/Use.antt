-- The value of a rule variable where its rule is used (manual: "Rules", "Evaluation and scoping").
use Rattle.std.specs.Prelude.{◌≡◌, ◌⊎◌, ℕ, ◌||◌, Bool, true, false, if◌then◌else◌, List, [], ◌∷◌, ◌++◌, Option, None, Some, IsSome, map, unwrap_or, bytes_eq, codes}
use Rattle.std.specs.Map.Iter.{deref}
use Rattle.scopes.specs.declared.template.Template.{Template}
use Rattle.scopes.specs.declared.usage.Use.{Use}
use Rattle.scopes.specs.declared.usage.Paths.{Paths}
use Rattle.scopes.specs.Block.{block_value}
use Rattle.scopes.specs.Rule.{template_of}
use Rattle.scopes.specs.Texts.{expansion, names, joined}
use Rattle.scopes.specs.Moves.{Move, or_else, value_at_end}

-- ---- what a name stands for

-- the names that stand for paths of the edge
abbrev pub is_special : List ℕ → Bool
is_special name = bytes_eq name (codes "in") || (bytes_eq name (codes "out") || bytes_eq name (codes "in_newline"))

-- a value that is a path itself shows paths as they are (this project's own)
abbrev pub is_unquoted : List ℕ → Bool
is_unquoted name = bytes_eq name (codes "depfile") || (bytes_eq name (codes "dyndep") || bytes_eq name (codes "rspfile"))

abbrev pub paths_for : Use → List ℕ → Paths
paths_for at asked = if is_unquoted asked then at.plain else at.quoted

abbrev pub special_value : Paths → List ℕ → Option (List ℕ)
special_value paths name =
    if bytes_eq name (codes "in") then Some (joined (32 ∷ []) (map deref paths.inputs.now))
    else (if bytes_eq name (codes "out") then Some (joined (32 ∷ []) (map deref paths.outputs.now))
    else (if bytes_eq name (codes "in_newline") then Some (joined (10 ∷ []) (map deref paths.inputs.now)) else None))

-- the text of the rule that a name stands for which stands for no paths: where the block does not bind it
abbrev pub unless_bound : Option (List ℕ) → Option Template → Option Template
unless_bound None template = template
unless_bound (Some value) template = None

abbrev pub rule_text : Use → List ℕ → Option Template
rule_text at name = unless_bound (block_value at.block.now name) (template_of at.rule.now name)

-- the same of a name that may stand for paths
abbrev pub opened : Use → List ℕ → Option Template
opened at name = if is_special name then None else unless_bound (block_value at.block.now name) (template_of at.rule.now name)

-- any other name: paths; what the block binds; the value in the scope of the build statement at its end; nothing
abbrev pub fixed : Use → List ℕ → List Move → List ℕ → List ℕ
fixed at asked past name = unwrap_or (special_value (paths_for at asked) name) (unwrap_or (or_else (block_value at.block.now name) (value_at_end past at.scope name)) [])

abbrev pub has : List (List ℕ) → List ℕ → Bool
has [] name = false
has (other ∷ others) name = bytes_eq other name || has others name

-- ---- values

module _ (opens : List ℕ → Option Template) where
  -- The value of a name: a text of the rule has its names taken by this same order.
  pub data IsValueAtUse (fixed : List ℕ → List ℕ) : List ℕ → List ℕ → Type 0 where
    Fixed : (name value : List ℕ) → opens name ≡ None → value ≡ fixed name → IsValueAtUse fixed name value
    Opened : (name value : List ℕ) (template : Template) (values : List ℕ → List ℕ) → opens name ≡ Some template
        → ((other : List ℕ) → names template.parts other ≡ true → IsValueAtUse fixed other (values other))
        → value ≡ expansion values template.parts → IsValueAtUse fixed name value

  -- the text of one name has the other
  pub record Names (name other : List ℕ) : Type 0 where
    pub template : Template
    pub opens_to : opens name ≡ Some template
    pub named : names template.parts other ≡ true

  -- a chain of names leads from one to the other
  pub data Leads : List ℕ → List ℕ → Type 0 where
    Once : (name other : List ℕ) → Names name other → Leads name other
    More : (name next other : List ℕ) → Names name next → Leads next other → Leads name other

  abbrev pub IsOnTheWay : List ℕ → List ℕ → Type 0
  IsOnTheWay name other = (name ≡ other) ⊎ Leads name other

  -- variables of the rule name each other in a circle
  pub record HasCircle (name : List ℕ) : Type 0 where
    pub at : List ℕ
    pub on_the_way : IsOnTheWay name at
    pub circle : Leads at at

  -- ---- an order in which the texts of the rule can be expanded

  -- the text of the name, and those of the rule that it names stand before
  pub record Follows (before : List (List ℕ)) (name : List ℕ) : Type 0 where
    pub template : Template
    pub opens_to : opens name ≡ Some template
    pub named : (other : List ℕ) → names template.parts other ≡ true → IsSome (opens other) → has before other ≡ true

  abbrev pub IsOrder : List (List ℕ) → List (List ℕ) → Type 0
  IsOrder before [] = Unit {0}
  IsOrder before (name ∷ order) = Follows before name × IsOrder (before ++ name ∷ []) order

  -- the texts of the rule on the way from a name, in such an order
  pub record IsOrderFrom (name : List ℕ) (order : List (List ℕ)) : Type 0 where
    pub ordered : IsOrder [] order
    pub all : IsSome (opens name) → has order name ≡ true
    pub on_the_way : (other : List ℕ) → has order other ≡ true → IsOnTheWay name other
