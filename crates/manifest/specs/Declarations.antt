-- What each statement says, where it stands (manual: "Ninja file reference").
use Rattle.std.specs.Prelude.{◌≡◌, ℕ, ◌<◌, ◌||◌, not, Bool, true, false, if◌then◌else◌, List, [], ◌∷◌, ◌++◌, ◌⊎◌, length, map, is_some, Option, None, Some, IsSome, bytes_eq, codes}
use Rattle.lexer.specs.declared.fault.FaultKind.TheVariants.{TooLarge, EmptyPath}
use Rattle.lexer.specs.Said.{Fragments, BuildForm}
use Rattle.model.specs.Graph.{console}
use Rattle.scopes.specs.declared.template.Rule.{Rule}
use Rattle.scopes.specs.Moves.{Bind, DeclareRule, rule_at, last_in, rule_named}
use Rattle.manifest.specs.declared.fault.FaultKind.TheVariants.{Line, UnknownRule, RepeatedRule, UnexpectedVariable, NoCommand, UnpairedResponse, RepeatedPool, BadDepth, NeedsVersion}
use Rattle.manifest.specs.declared.fault.FileFault.{FileFault}
use Rattle.manifest.specs.Spelled.{EdgePaths}
use Rattle.manifest.specs.Readings.{Reading, Give, Refuse, Unless, Then, Where, Cut, Each, Place, fault_at}
use Rattle.manifest.specs.Expansion.{Bound, value_here, text_at, some_text, is_large, is_empty, ArePaths}
use Rattle.manifest.specs.States.{State, Build, with_move, with_build, with_pool, with_defaults, present, is_pool, named, different}
use Rattle.manifest.specs.Blocks.{BlockLine, RuleText, RuleBlock, IsRuleOf, text_in, BuildBlock, build_block}
use Rattle.manifest.specs.Numbers.{depth_in, is_newer}

-- ---- `name = value` (manual: "Variables", "Top-level variables")

abbrev pub version_name : List ℕ
version_name = codes "ninja_required_version"

abbrev pub AsksTooMuch : List ℕ → List ℕ → Type 0
AsksTooMuch name value = (name ≡ version_name) × (is_newer value ≡ true)

-- a value that is too large is refused before it is looked at (this project's own)
abbrev pub OfBinding : Place → List ℕ → Fragments → State → Reading State
OfBinding place name value state =
    Unless (is_large (text_at state.past value) ≡ true) (fault_at place (Line TooLarge))
    (Unless (AsksTooMuch name (text_at state.past value)) (fault_at place (NeedsVersion (text_at state.past value)))
    (Give (with_move (Bind name (text_at state.past value)) state)))

-- ---- `rule NAME` (manual: "Rules")

-- `phony`, or a name that this scope itself has declared
abbrev pub IsRepeated : State → List ℕ → Type 0
IsRepeated state name = (name ≡ codes "phony") ⊎ IsSome (last_in (rule_named name) state.past (present state))

abbrev pub has_text : List RuleText → List ℕ → Bool
has_text texts name = is_some (text_in texts name)

-- the rule of a block; where the text stops behind it, that goes before what the block lacks
abbrev pub RuleOf : Place → List ℕ → List BlockLine → Option FileFault → Reading Rule
RuleOf place name block behind =
    Then (RuleBlock place.file block []) (λ texts. Cut behind
    (Unless (has_text texts (codes "command") ≡ false) (fault_at place (NoCommand name))
    (Unless (has_text texts (codes "rspfile") ≡ not (has_text texts (codes "rspfile_content"))) (fault_at place (UnpairedResponse name))
    (Where (IsRuleOf texts) (λ (rule : Rule). Give rule)))))

abbrev pub OfRule : Place → List ℕ → List BlockLine → Option FileFault → State → Reading State
OfRule place name block behind state =
    Unless (IsRepeated state name) (fault_at place (RepeatedRule name))
    (Then (RuleOf place name block behind) (λ (rule : Rule). Give (with_move (DeclareRule name rule) state)))

-- ---- `build OUTPUTS: RULE INPUTS` (manual: "Build statements")

abbrev pub is_phony : List ℕ → Bool
is_phony name = bytes_eq name (codes "phony")

-- the rule of this name at this place; `phony` is none
abbrev pub rule_here : State → List ℕ → Option Rule
rule_here state name = if is_phony name then None else rule_at state.past name

abbrev pub IsUnknownRule : State → List ℕ → Type 0
IsUnknownRule state name = (is_phony name ≡ false) × (rule_at state.past name ≡ None)

abbrev pub RuleHere : Place → State → List ℕ → Reading (Option Rule)
RuleHere place state name = Unless (IsUnknownRule state name) (fault_at place (UnknownRule name)) (Give (rule_here state name))

abbrev pub all_texts : BuildForm → List Fragments
all_texts form =
    form.explicit_outputs ++ (form.implicit_outputs ++ (form.explicit_inputs ++ (form.implicit_inputs
    ++ (form.order_only_inputs ++ form.validations))))

pub record ArePathsOf (value : List ℕ → List ℕ) (form : BuildForm) (paths : EdgePaths) : Type 0 where
  pub explicit_outputs : ArePaths value form.explicit_outputs paths.explicit_outputs
  pub implicit_outputs : ArePaths value form.implicit_outputs paths.implicit_outputs
  pub explicit_inputs : ArePaths value form.explicit_inputs paths.explicit_inputs
  pub implicit_inputs : ArePaths value form.implicit_inputs paths.implicit_inputs
  pub order_only_inputs : ArePaths value form.order_only_inputs paths.order_only_inputs
  pub validations : ArePaths value form.validations paths.validations

-- limits of build files (this project's own)
abbrev pub most_edges : ℕ
most_edges = 4000000

abbrev pub most_paths : ℕ
most_paths = 4000000

abbrev pub IsTooMuch : List Build → Type 0
IsTooMuch builds = (most_edges < length builds) ⊎ (most_paths < different (named builds))

abbrev pub build_here : Place → BuildForm → Option Rule → List Bound → EdgePaths → State → Build
build_here place form rule block paths state = record {
  place = place;
  scope = present state;
  rule_name = form.rule;
  rule = rule;
  block = block;
  paths = paths;
}

-- the canonical paths of a build line, where names have these values
abbrev pub PathsOf : Place → (List ℕ → List ℕ) → BuildForm → Reading EdgePaths
PathsOf place value form =
    Unless (some_text is_empty value (all_texts form) ≡ true) (fault_at place (Line EmptyPath))
    (Unless (some_text is_large value (all_texts form) ≡ true) (fault_at place (Line TooLarge))
    (Where (ArePathsOf value form) (λ (paths : EdgePaths). Give paths)))

-- the faults of the line itself go before that of its block
abbrev pub OfBuildIn : Place → BuildForm → BuildBlock → State → Reading State
OfBuildIn place form block state =
    Then (RuleHere place state form.rule) (λ (rule : Option Rule).
    Then (PathsOf place (value_here block.bound state.past) form) (λ (paths : EdgePaths).
    Unless (IsTooMuch (state.builds ++ build_here place form rule block.bound paths state ∷ [])) (fault_at place (Line TooLarge))
    (Cut block.fault (Give (with_build (build_here place form rule block.bound paths state) state)))))

abbrev pub OfBuild : Place → BuildForm → List BlockLine → State → Reading State
OfBuild place form block state = OfBuildIn place form (build_block place.file state.past block []) state

-- ---- `pool NAME` (manual: "Pools")

abbrev pub IsTakenPool : State → List ℕ → Type 0
IsTakenPool state name = (bytes_eq name console || is_pool state.pools name) ≡ true

-- a line of the block; of two depths the last counts
abbrev pub PoolLine : State → List ℕ → List ℕ → BlockLine → Option ℕ → Reading (Option ℕ)
PoolLine state file pool line before =
    Unless (bytes_eq line.name (codes "depth") ≡ false) (fault_at (record { file = file; line = line.line }) (UnexpectedVariable line.name))
    (Unless (is_large (text_at state.past line.value) ≡ true) (fault_at (record { file = file; line = line.line }) (Line TooLarge))
    (Unless (depth_in (text_at state.past line.value) ≡ None) (fault_at (record { file = file; line = line.line }) (BadDepth pool))
    (Give (depth_in (text_at state.past line.value)))))

-- the depth that the block gives, which may not be missing
abbrev pub SomeDepth : Place → List ℕ → Option ℕ → Reading ℕ
SomeDepth place name None = Refuse (fault_at place (BadDepth name))
SomeDepth place name (Some depth) = Give depth

abbrev pub DepthOf : Place → List ℕ → List BlockLine → Option FileFault → State → Reading ℕ
DepthOf place name block behind state = Then (Each (PoolLine state place.file name) block None) (λ depth. Cut behind (SomeDepth place name depth))

abbrev pub OfPool : Place → List ℕ → List BlockLine → Option FileFault → State → Reading State
OfPool place name block behind state =
    Unless (IsTakenPool state name) (fault_at place (RepeatedPool name))
    (Then (DepthOf place name block behind state) (λ depth. Give (with_pool (record { name = name; depth = depth }) state)))

-- ---- `default PATHS` (manual: "Default target statements")

abbrev pub DefaultPaths : Place → List Fragments → State → Reading (List (List ℕ))
DefaultPaths place texts state =
    Unless (some_text is_empty (value_here [] state.past) texts ≡ true) (fault_at place (Line EmptyPath))
    (Unless (some_text is_large (value_here [] state.past) texts ≡ true) (fault_at place (Line TooLarge))
    (Where (ArePaths (value_here [] state.past) texts) (λ (paths : List (List ℕ)). Give paths)))

abbrev pub OfDefault : Place → List Fragments → State → Reading State
OfDefault place texts state =
    Then (DefaultPaths place texts state) (λ (paths : List (List ℕ)). Give (with_defaults (map (λ path. record { place = place; path = path }) paths) state))
