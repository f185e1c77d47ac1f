-- Statements and their blocks.
use Rattle.std.specs.Prelude.{◌≡◌, ℕ, suc, ◌||◌, Bool, true, false, if◌then◌else◌, List, [], ◌∷◌, ◌++◌, Option, None, Some, bytes_eq, codes}
use Rattle.std.specs.List.{flat_map}
use Rattle.lexer.specs.declared.fault.FaultKind.TheVariants.{TooLarge}
use Rattle.lexer.specs.Said.{Fragment, Fragments, Form, Said, fragments_of}
use Rattle.lexer.specs.Said.Fragment.{literal, expansion}
use Rattle.lexer.specs.Said.Form.{binding, block_binding, rule, build, pool, defaults, includes, subninja}
use Rattle.scopes.specs.declared.template.Part.{Part}
use Rattle.scopes.specs.declared.template.Part.TheVariants.{Text, Name}
use Rattle.scopes.specs.declared.template.Template.{Template}
use Rattle.scopes.specs.declared.template.Rule.{Rule}
use Rattle.scopes.specs.Rule.{template_of}
use Rattle.scopes.specs.Moves.{Move}
use Rattle.manifest.specs.declared.fault.FaultKind.TheVariants.{Line, UnexpectedVariable}
use Rattle.manifest.specs.declared.fault.FileFault.{FileFault}
use Rattle.manifest.specs.declared.blocks.BlockLine.{BlockLine as KeptLine}
use Rattle.manifest.specs.Readings.{Reading, Give, Unless, Each, fault_at}
use Rattle.manifest.specs.Expansion.{Bound, text_at, is_large}

-- ---- blocks

-- a line of a block
pub record BlockLine : Type 0 where
  pub line : ℕ
  pub name : List ℕ
  pub value : Fragments

abbrev pub is_of_block : Form → Bool
is_of_block (binding name value) = false
is_of_block (block_binding name value) = true
is_of_block (rule name) = false
is_of_block (build line) = false
is_of_block (pool name) = false
is_of_block (defaults paths) = false
is_of_block (includes path) = false
is_of_block (subninja path) = false

abbrev pub block_line : ℕ → Form → List BlockLine
block_line number (binding name value) = []
block_line number (block_binding name value) = record { line = number; name = name; value = value } ∷ []
block_line number (rule name) = []
block_line number (build line) = []
block_line number (pool name) = []
block_line number (defaults paths) = []
block_line number (includes path) = []
block_line number (subninja path) = []

abbrev pub block_lines : List Said → List BlockLine
block_lines said = flat_map (λ (line : Said). block_line line.number line.form) said

-- a statement with the lines of its block
pub record Group : Type 0 where
  pub head : Said
  pub block : List BlockLine

-- the lines of a block in front, and the statements behind them
pub record Grouped : Type 0 where
  pub block : List BlockLine
  pub groups : List Group

abbrev pub add_line : Said → Grouped → Grouped
add_line said rest =
    if is_of_block said.form then record { block = block_line said.number said.form ++ rest.block; groups = rest.groups }
    else record { block = []; groups = record { head = said; block = rest.block } ∷ rest.groups }

abbrev pub grouped : List Said → Grouped
grouped [] = record { block = []; groups = [] }
grouped (said ∷ rest) = add_line said (grouped rest)

abbrev pub groups_of : List Said → List Group
groups_of said = (grouped said).groups

-- ---- the block of a rule (manual: "Rules", "Rule variables")

-- a value that is not expanded yet
pub record RuleText : Type 0 where
  pub name : List ℕ
  pub value : Fragments

-- the names that the block of a rule may bind
abbrev pub is_rule_variable : List ℕ → Bool
is_rule_variable name =
    bytes_eq name (codes "command") || (bytes_eq name (codes "depfile") || (bytes_eq name (codes "deps") || (bytes_eq name (codes "dyndep")
    || (bytes_eq name (codes "description") || (bytes_eq name (codes "generator") || (bytes_eq name (codes "pool") || (bytes_eq name (codes "restat")
    || (bytes_eq name (codes "rspfile") || (bytes_eq name (codes "rspfile_content") || bytes_eq name (codes "msvc_deps_prefix"))))))))))

abbrev pub RuleLine : List ℕ → BlockLine → List RuleText → Reading (List RuleText)
RuleLine file line before =
    Unless (is_rule_variable line.name ≡ false) (fault_at (record { file = file; line = line.line }) (UnexpectedVariable line.name))
    (Give (record { name = line.name; value = line.value } ∷ before))

-- the texts of the block, the latest first
abbrev pub RuleBlock : List ℕ → List BlockLine → List RuleText → Reading (List RuleText)
RuleBlock file = Each (RuleLine file)

abbrev pub part_of : Fragment → Part
part_of (literal text) = Text text
part_of (expansion name) = Name name

abbrev pub parts_of : Fragments → List Part
parts_of [] = []
parts_of (fragment ∷ fragments) = part_of fragment ∷ parts_of fragments

-- of two lines for one name the last counts
abbrev pub text_in : List RuleText → List ℕ → Option Template
text_in [] name = None
text_in (text ∷ earlier) name = if bytes_eq text.name name then Some (record { parts = parts_of text.value }) else text_in earlier name

-- the rule keeps just these texts
abbrev pub IsRuleOf : List RuleText → Rule → Type 0
IsRuleOf texts kept = (name : List ℕ) → template_of kept name ≡ text_in texts name

-- ---- the block of a build statement (manual: "Build statements")

-- what is bound, the latest first, and the fault of a line that has one; no line behind it is looked at (this project's own)
pub record BuildBlock : Type 0 where
  pub bound : List Bound
  pub fault : Option FileFault

abbrev pub build_block : List ℕ → List Move → List BlockLine → List Bound → BuildBlock
build_block file past [] before = record { bound = before; fault = None }
build_block file past (line ∷ lines) before =
    if is_large (text_at past line.value) then record { bound = before; fault = Some (fault_at (record { file = file; line = line.line }) (Line TooLarge)) }
    else build_block file past lines (record { name = line.name; value = text_at past line.value } ∷ before)

-- ---- lines as the code has them

-- how many lines in front belong to a block
abbrev pub lines_in_front : List Said → ℕ
lines_in_front [] = 0
lines_in_front (said ∷ rest) = if is_of_block said.form then suc (lines_in_front rest) else 0

abbrev pub IsBlockLineOf : ℕ → Form → Option KeptLine → Type 0
IsBlockLineOf number form None = block_line number form ≡ []
IsBlockLineOf number form (Some line) = block_line number form ≡ record { line = line.line; name = line.name.now; value = fragments_of line.value.now } ∷ []

-- the lines of a block in front, and the statements behind them
pub record IsSplit (all block rest : List Said) : Type 0 where
  pub whole : all ≡ block ++ rest
  pub block_is : (grouped all).block ≡ block_lines block
  pub groups_are : (grouped all).groups ≡ groups_of rest
