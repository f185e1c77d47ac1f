-- What the functions of this crate answer where something does not fit.
use Rattle.std.specs.Prelude.{◌≡◌, ℕ, Bool, true, false, cond, List, [], ◌∷◌, ◌++◌, ◌+◌, map, Err, Option}
use Rattle.std.specs.List.{AllByRecursion}
use Rattle.lexer.specs.declared.fault.Fault.{Fault as LineFault}
use Rattle.lexer.specs.declared.statement.Line.{Line}
use Rattle.lexer.specs.Said.{Fragments, BuildForm, Form, form_of}
use Rattle.lexer.specs.Said.Form.{binding, block_binding, rule, build, pool, defaults, includes, subninja}
use Rattle.dyndep.specs.declared.addition.Addition.{Addition}
use Rattle.dyndep.specs.declared.fault.DynFault.TheVariants.{BadVersion, BadStatement}
use Rattle.dyndep.specs.declared.fault.ReadError.{ReadError}
use Rattle.dyndep.specs.declared.fault.ReadError.TheVariants.{Memory, Fault}
use Rattle.dyndep.specs.Dyndep.{IsAddition, AreAdditions, ArePaths, IsRead, LacksVersion, IsUnfit, binds_restat, restat_behind}

-- a bad statement is answered only where this is so
abbrev pub RefusedWhere : Type 0 → ReadError → Type 0
RefusedWhere Why Memory = Unit {0}
RefusedWhere Why (Fault fault) = (fault ≡ BadStatement) × Why

-- no paths are written so
abbrev pub NoPaths : List Fragments → Type 0
NoPaths values = (paths : List (List ℕ)) → ¬ (ArePaths values paths)

-- what a statement with its block adds
abbrev pub AddsOne : Form → List Form → Addition → Type 0
AddsOne (binding name value) block addition = ⊥
AddsOne (block_binding name value) block addition = ⊥
AddsOne (rule name) block addition = ⊥
AddsOne (build line) block addition = IsAddition line block addition
AddsOne (pool name) block addition = ⊥
AddsOne (defaults paths) block addition = ⊥
AddsOne (includes path) block addition = ⊥
AddsOne (subninja path) block addition = ⊥

abbrev pub AddsNone : Form → List Form → Type 0
AddsNone form block = (addition : Addition) → ¬ (AddsOne form block addition)

abbrev pub forms_in : List Line → List Form
forms_in = map (λ line. form_of line.statement)

-- a line of a block
abbrev pub is_of_block : Form → Bool
is_of_block (binding name value) = false
is_of_block (block_binding name value) = true
is_of_block (rule name) = false
is_of_block (build line) = false
is_of_block (pool name) = false
is_of_block (defaults paths) = false
is_of_block (includes path) = false
is_of_block (subninja path) = false

-- how many lines in front are of a block
abbrev pub block_length : List Form → ℕ
block_length [] = 0
block_length (form ∷ forms) = cond (is_of_block form) (1 + block_length forms) 0

abbrev pub begins_block : List Form → Bool
begins_block [] = false
begins_block (form ∷ forms) = is_of_block form

-- the block that stands first, and what stands behind it
pub record IsSplit (forms block behind : List Form) : Type 0 where
  pub whole : forms ≡ block ++ behind
  pub all : AllByRecursion (λ form. is_of_block form ≡ true) block
  pub ends : begins_block behind ≡ false

-- the fault that is answered is that of the bytes
abbrev pub AnswersFault : List ℕ → ReadError → Type 0
AnswersFault bytes Memory = Unit {0}
AnswersFault bytes (Fault fault) = IsRead bytes (Err fault)

abbrev pub AddsNoneByLine : BuildForm → List Form → Type 0
AddsNoneByLine line block = (addition : Addition) → ¬ (IsAddition line block addition)

abbrev pub AreNoAdditions : List Form → Type 0
AreNoAdditions forms = (additions : List Addition) → ¬ (AreAdditions forms additions)

-- why statements with this fault behind them are refused
abbrev pub RefusesForms : List Form → Option LineFault → ReadError → Type 0
RefusesForms forms fault Memory = Unit {0}
RefusesForms forms fault (Fault BadVersion) = LacksVersion forms fault
RefusesForms forms fault (Fault BadStatement) = IsUnfit forms fault

-- a line of a block binds `restat` to this
abbrev pub BindsAs : Form → Bool → Type 0
BindsAs form restat = (binds_restat form ≡ true) × ((before : Bool) → restat ≡ restat_behind before form)

-- What a statement with its block adds stands before what the forms behind it add, and only so; where it adds nothing of the kind, nor
-- do all of them.
pub record StatementsAdd : Type 0 where
  pub one : (form : Form) (rest block behind : List Form) (addition : Addition) → IsSplit rest block behind → AddsOne form block addition → (more : List Addition) → AreAdditions behind more → AreAdditions (form ∷ rest) (addition ∷ more)
  pub rest : (form : Form) (rest block behind : List Form) (addition : Addition) → IsSplit rest block behind → AddsOne form block addition → (all : List Addition) → AreAdditions (form ∷ rest) all → (more : List Addition) × AreAdditions behind more
  pub none : (form : Form) (rest block behind : List Form) → IsSplit rest block behind → AddsNone form block → AreNoAdditions (form ∷ rest)
