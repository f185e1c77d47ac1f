-- What tools tell of build files beside the manifest: the names of rules, and which edges run a generator (manual: "Rule variables").
use Rattle.std.specs.Prelude.{◌≡◌, ◌≢◌, ◌⊎◌, ◌≤◌, Bool, true, false, List, ℕ, [], map, length, codes, get_or, slice_get, Option, Some, None, Result, Ok, Err}
use Rattle.std.specs.Map.Iter.{deref}
use Rattle.std.specs.Option.{option_map}
use Rattle.scopes.specs.declared.all_scopes.Scopes.{Scopes}
use Rattle.scopes.specs.declared.template.Rule.{Rule}
use Rattle.scopes.specs.declared.fault.UseFault.{UseFault}
use Rattle.scopes.specs.declared.fault.UseFault.TheVariants.{Memory, Circle, TooLarge}
use Rattle.scopes.specs.declared.usage.Use.{Use}
use Rattle.scopes.specs.Large.{IsTooLargeIn, IsValueIn}
use Rattle.scopes.specs.Texts.{largest_value}
use Rattle.scopes.specs.Use.{HasCircle, opened}
use Rattle.paths.specs.declared.line.Line.{Line}
use Rattle.paths.specs.declared.manifest.Manifest.{Manifest}
use Rattle.paths.specs.Lists.{line_at}
use Rattle.paths.specs.Told.{text_at, texts_at}
use Rattle.manifest.specs.declared.described.Described.{Described}
use Rattle.manifest.specs.declared.fault.ReadError.{ReadError}
use Rattle.manifest.specs.declared.kept.Declared.{Declared}
use Rattle.manifest.specs.declared.kept.ReadEdge.{ReadEdge}

-- the manifest of an answer, without what is told beside it
abbrev pub manifest_in : Result (Manifest × Described) ReadError → Result Manifest ReadError
manifest_in (Ok both) = Ok both.0
manifest_in (Err error) = Err error

-- ---- generators

abbrev pub generator : List ℕ
generator = codes "generator"

-- the mark says whether `generator` has a value there that is not empty; what cannot be expanded has none
abbrev pub Marks : Scopes → Use → Bool → Type 0
Marks scopes at true = (text : List ℕ) × IsValueIn scopes at generator text × (length text ≤ largest_value) × (text ≢ [])
Marks scopes at false = IsValueIn scopes at generator [] ⊎ (HasCircle (opened at) generator ⊎ IsTooLargeIn scopes at generator)

-- the edge uses the rule with these inputs and outputs, taken as they are: whether a value is empty does not depend on quotes
pub record IsPlainUse (inputs outputs : List (List ℕ)) (edge : ReadEdge) (rule : Rule) (at : Use) : Type 0 where
  pub scope : at.scope ≡ edge.scope
  pub block : at.block.now ≡ edge.block
  pub rule_is : at.rule.now ≡ rule
  pub inputs_are : map deref at.plain.inputs.now ≡ inputs
  pub outputs_are : map deref at.plain.outputs.now ≡ outputs
  pub unquoted : at.quoted ≡ at.plain

-- so the mark says of that use
pub record MarksRule (scopes : Scopes) (inputs outputs : List (List ℕ)) (edge : ReadEdge) (rule : Rule) (mark : Bool) : Type 0 where
  pub at : Use
  pub uses : IsPlainUse inputs outputs edge rule at
  pub marks : Marks scopes at mark

-- a fault of an expansion leaves no mark
abbrev pub LeavesNoMark : UseFault → Bool → Type 0
LeavesNoMark Memory mark = ⊥
LeavesNoMark Circle mark = mark ≡ false
LeavesNoMark TooLarge mark = mark ≡ false

-- an alias has no mark
abbrev pub MarksIfRule : Declared → Line → ReadEdge → Option Rule → Bool → Type 0
MarksIfRule declared line edge None mark = mark ≡ false
MarksIfRule declared line edge (Some rule) mark =
    MarksRule declared.scopes (texts_at declared.paths.table line.explicit_inputs) (texts_at declared.paths.table line.explicit_outputs) edge rule mark

-- the mark is that of this edge, whose line has this number
abbrev pub MarksEdge : Declared → ℕ → ReadEdge → Bool → Type 0
MarksEdge declared e edge mark = MarksIfRule declared (line_at declared.paths.lines e) edge (option_map (λ rule. rule.value) edge.rule) mark

-- there is a mark for each edge, which is its own
pub record MarksEdges (declared : Declared) (marks : List Bool) : Type 0 where
  pub count : length marks ≡ length declared.edges.items
  pub each : (e : ℕ) (edge : ReadEdge) (mark : Bool) → slice_get declared.edges.items e ≡ Some edge → slice_get marks e ≡ Some mark → MarksEdge declared e edge mark

-- ---- names of rules

-- these are the numbers of the names of rules, among these names
abbrev pub AreNamesOf : List ReadEdge → List (List ℕ) → List ℕ → Type 0
AreNamesOf edges names numbers = texts_at names numbers ≡ map (λ edge. edge.rule_name) edges

-- ---- what is told

abbrev pub name_at : List (List ℕ) → Option ℕ → List ℕ
name_at names None = []
name_at names (Some number) = text_at names number

-- the name of the rule of an edge; it is empty for an edge that was not read
abbrev pub rule_in : Described → ℕ → List ℕ
rule_in described e = name_at described.names (slice_get described.rules.items e)

-- whether the edge runs a generator; none that was not read does
abbrev pub mark_in : Described → ℕ → Bool
mark_in described e = get_or described.generators.items e false

-- there is a name and a mark for each line
pub record DescribesLines (lines : List Line) (described : Described) : Type 0 where
  pub rules : length described.rules.items ≡ length lines
  pub generators : length described.generators.items ≡ length lines
