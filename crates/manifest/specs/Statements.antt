-- What statements say, by the texts and places that the code has in hand, in each state that is kept.
use Rattle.std.specs.Prelude.{◌≡◌, ℕ, ◌||◌, Bool, true, List, [], ◌∷◌, map, Option, Result, bytes_eq}
use Rattle.std.specs.Option.{option_map}
use Rattle.std.specs.declared.alloc.Global.{Global}
use Rattle.std.specs.declared.rc.Rc.{Rc}
use Rattle.lexer.specs.declared.fault.Fault.{Fault}
use Rattle.lexer.specs.declared.fault.FaultKind.TheVariants.{TooLarge}
use Rattle.lexer.specs.declared.statement.Line.{Line}
use Rattle.lexer.specs.declared.statement.Value.{Value}
use Rattle.lexer.specs.declared.statement.BuildLine.{BuildLine}
use Rattle.lexer.specs.Said.{Fragments, Form, said_of, build_of, fragments_of}
use Rattle.model.specs.Graph.{console}
use Rattle.scopes.specs.declared.template.Rule.{Rule}
use Rattle.scopes.specs.Moves.{Move}
use Rattle.manifest.specs.declared.builds.BlockRead.{BlockRead}
use Rattle.manifest.specs.declared.fault.FaultKind.TheVariants.{Line as OfLine}
use Rattle.manifest.specs.declared.fault.FileFault.{FileFault}
use Rattle.manifest.specs.declared.fault.ReadError.{ReadError}
use Rattle.manifest.specs.declared.kept.Declared.{Declared}
use Rattle.manifest.specs.declared.place.Place.{Place as KeptPlace}
use Rattle.manifest.specs.Answer.{Answer, IsAnswerOf, IsFaultOf}
use Rattle.manifest.specs.Blocks.{BlockLine, RuleText, RuleLine, IsRuleOf, block_lines, build_block}
use Rattle.manifest.specs.Declarations.{OfBinding, OfRule, OfBuild, OfPool, OfDefault, RuleOf, RuleHere, DepthOf}
use Rattle.manifest.specs.Expansion.{text_at, is_large}
use Rattle.manifest.specs.Files.{OfDeclaration, fault_in}
use Rattle.manifest.specs.Held.{InEachState, IsFormed, Says}
use Rattle.manifest.specs.Keeping.{IsBlockRead, FindsRule}
use Rattle.manifest.specs.Places.{place_of}
use Rattle.manifest.specs.Readings.{Place, Reading, Unless, Give, Each, fault_at}
use Rattle.manifest.specs.Readings.Outcome.{Reached}
use Rattle.manifest.specs.States.{State, is_pool}

-- ---- of each state that is kept

-- the answer, and what is kept after it, are those of the reading, in each state that was kept before
abbrev pub SaysNext : Answer → Declared → Declared → (State → Reading State) → Type 0
SaysNext result old new reading = InEachState old (λ state. Says result new (reading state))

abbrev pub IsAnswerIn : {X : Type 0} → Declared → (State → Reading X) → Result X ReadError → Type 0
IsAnswerIn kept reading result = InEachState kept (λ state. IsAnswerOf (reading state) result)

-- the rule that was found, or why none was, is that of the name at this place
abbrev pub FindsRuleIn : Declared → Place → List ℕ → Result (Option (Rc Rule Global)) ReadError → Type 0
FindsRuleIn kept place name result = InEachState kept (λ state. FindsRule (RuleHere place state name) result)

-- what makes a graph well formed stays
abbrev pub KeepsFormed : Declared → Declared → Type 0
KeepsFormed old new = IsFormed old → IsFormed new

-- ---- blocks

-- the lines of a block, and those that one line makes
abbrev pub lines_of : List Line → List BlockLine
lines_of block = block_lines (map said_of block)

abbrev pub lines_of_one : Line → List BlockLine
lines_of_one line = block_lines (said_of line ∷ [])

-- the fault behind a block
abbrev pub fault_of : KeptPlace → Option Fault → Option FileFault
fault_of place end = option_map (fault_in place.file.now.value) end

-- the block of a build statement was read from these lines
abbrev pub IsReadFrom : List Line → List Move → BlockRead → Type 0
IsReadFrom lines past read = (file : List ℕ) → IsBlockRead read file (build_block file past (lines_of lines) [])

-- ---- statements

abbrev pub BindingSays : KeptPlace → List ℕ → Value → State → Reading State
BindingSays place name value = OfBinding (place_of place) name (fragments_of value)

abbrev pub RuleSays : KeptPlace → List ℕ → List Line → Option Fault → State → Reading State
RuleSays place name block end = OfRule (place_of place) name (lines_of block) (fault_of place end)

abbrev pub BuildSays : KeptPlace → BuildLine → List Line → State → Reading State
BuildSays place build block = OfBuild (place_of place) (build_of build) (lines_of block)

abbrev pub PoolSays : KeptPlace → List ℕ → List Line → Option Fault → State → Reading State
PoolSays place name block end = OfPool (place_of place) name (lines_of block) (fault_of place end)

abbrev pub DefaultSays : KeptPlace → List Fragments → State → Reading State
DefaultSays place paths = OfDefault (place_of place) paths

abbrev pub DeclarationSays : KeptPlace → Form → List Line → Option Fault → State → Reading State
DeclarationSays place form block end = OfDeclaration (place_of place) form (lines_of block) (fault_of place end)

-- ---- parts of them

-- a text that may not be too large; what a value expands to where no block is seen
abbrev pub SmallText : Place → List ℕ → Reading (List ℕ)
SmallText place text = Unless (is_large text ≡ true) (fault_at place (OfLine TooLarge)) (Give text)

abbrev pub ValueHere : KeptPlace → Value → State → Reading (List ℕ)
ValueHere place value state = SmallText (place_of place) (text_at state.past (fragments_of value))

abbrev pub RuleIn : KeptPlace → List ℕ → List Line → Option Fault → Reading Rule
RuleIn place name block end = RuleOf (place_of place) name (lines_of block) (fault_of place end)

-- what a line of a rule's block says after these texts
abbrev pub RuleLineSays : KeptPlace → Line → List RuleText → Reading (List RuleText)
RuleLineSays place line before = Each (RuleLine place.file.now.value) (lines_of_one line) before

-- the rule keeps the texts of the line too
abbrev pub HasRuleTexts : Rule → Reading (List RuleText) → Type 0
HasRuleTexts rule reading = (texts : List RuleText) × IsRuleOf texts rule × reading (Reached texts)

abbrev pub KeepsRuleLine : KeptPlace → Line → Rule → Rule → Type 0
KeepsRuleLine place line old new =
    (before : List RuleText) → IsRuleOf before old → HasRuleTexts new (RuleLineSays place line before)

abbrev pub IsRuleLineFault : KeptPlace → Line → ReadError → Type 0
IsRuleLineFault place line error = (before : List RuleText) → IsFaultOf (RuleLineSays place line before) error

-- a pool of this name is declared, or built in
abbrev pub is_taken_pool : State → List ℕ → Bool
is_taken_pool state name = bytes_eq name console || is_pool state.pools name

abbrev pub DepthSays : KeptPlace → List ℕ → List Line → Option Fault → State → Reading ℕ
DepthSays place name block end = DepthOf (place_of place) name (lines_of block) (fault_of place end)
