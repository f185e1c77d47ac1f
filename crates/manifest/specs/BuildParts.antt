-- A build statement in two parts: what its line and its block say, and then its paths.
use Rattle.std.specs.Prelude.{◌≡◌, ℕ, ◌++◌, [], ◌∷◌, List, Option, Result, Ok, Err}
use Rattle.std.specs.Option.{option_map}
use Rattle.std.specs.declared.alloc.Global.{Global}
use Rattle.std.specs.declared.rc.Rc.{Rc}
use Rattle.lexer.specs.Said.{BuildForm}
use Rattle.scopes.specs.declared.all_scopes.Scopes.{Scopes}
use Rattle.scopes.specs.declared.template.Rule.{Rule}
use Rattle.scopes.specs.Moves.{Move}
use Rattle.scopes.specs.Scopes.{Always, IsScopesOf}
use Rattle.manifest.specs.declared.builds.BlockRead.{BlockRead}
use Rattle.manifest.specs.declared.builds.BuildRead.{BuildRead}
use Rattle.manifest.specs.declared.fault.ReadError.{ReadError}
use Rattle.manifest.specs.declared.kept.Named.{Named}
use Rattle.manifest.specs.Answer.{Answer, IsFaultOf}
use Rattle.manifest.specs.Blocks.{BlockLine, BuildBlock, build_block}
use Rattle.manifest.specs.Declarations.{OfBuild, RuleHere, build_here}
use Rattle.manifest.specs.Held.{AreNamed, AreLinesFormed, HasOutput}
use Rattle.manifest.specs.Keeping.{IsBlockRead}
use Rattle.manifest.specs.Readings.{Outcome, Place, Reading}
use Rattle.manifest.specs.Readings.Outcome.{Reached}
use Rattle.manifest.specs.Spelled.{EdgePaths}
use Rattle.manifest.specs.States.{State, Build, with_build}

-- ---- the line and the block

abbrev pub block_in : BuildRead → BlockRead
block_in read = record { block = read.edge.block; stop = read.stop }

abbrev pub rule_in : BuildRead → Option Rule
rule_in read = option_map (λ rule. rule.value) read.edge.rule

-- the rule that was found, or why none was
abbrev pub rule_read : Result BuildRead ReadError → Result (Option (Rc Rule Global)) ReadError
rule_read (Ok read) = Ok read.edge.rule
rule_read (Err error) = Err error

-- what a block of these lines binds
abbrev pub block_of : Place → List BlockLine → State → BuildBlock
block_of place lines state = build_block place.file state.past lines []

-- the statement that they make with paths
abbrev pub made_of : Place → BuildForm → List BlockLine → State → Option Rule → EdgePaths → Build
made_of place form lines state rule paths = build_here place form rule (block_of place lines state).bound paths state

-- ---- the paths

-- the statement is kept with some paths, as the reading says
abbrev pub IsKeptWith : Named → State → (EdgePaths → Build) → Reading State → Type 0
IsKeptWith named state made reading =
    (paths : EdgePaths) × AreNamed named (state.builds ++ made paths ∷ []) × reading (Reached (with_build (made paths) state))

abbrev pub SaysKept : Answer → Named → State → (EdgePaths → Build) → Reading State → Type 0
SaysKept (Ok value) named state made reading = IsKeptWith named state made reading
SaysKept (Err error) named state made reading = IsFaultOf reading error

-- the statement was read from this block, and has the rule of this name
abbrev pub HasBlock : Place → BuildRead → State → List BlockLine → Type 0
HasBlock place read state lines = IsBlockRead (block_in read) place.file (block_of place lines state)

abbrev pub HasRule : Place → BuildForm → BuildRead → State → Type 0
HasRule place form read state = RuleHere place state form.rule (Reached (rule_in read))

abbrev pub SaysBuild : Answer → Named → Place → BuildForm → BuildRead → State → List BlockLine → Type 0
SaysBuild result new place form read state lines =
    SaysKept result new state (made_of place form lines state (rule_in read)) (OfBuild place form lines state)

-- of each block and rule that the statement was read from
abbrev pub IfRead : Place → BuildForm → BuildRead → State → (List BlockLine → Type 0) → Type 0
IfRead place form read state P = (lines : List BlockLine)
    → HasBlock place read state lines → HasRule place form read state → P lines

-- of each state with these scopes and paths
abbrev pub OfNames : Scopes → Named → (State → Type 0) → Type 0
OfNames scopes named P = (state : State) → IsScopesOf scopes state.past → AreNamed named state.builds → P state

abbrev pub KeepsPaths : Answer → Scopes → Named → Named → Place → BuildForm → BuildRead → Type 0
KeepsPaths result scopes old new place form read =
    OfNames scopes old (λ state. IfRead place form read state (SaysBuild result new place form read state))

-- lines that are well formed stay so, with one more that has an output
abbrev pub KeepsLines : Scopes → Named → Named → BuildForm → Type 0
KeepsLines scopes old new form = Always scopes (λ past. AreLinesFormed old → HasOutput form → AreLinesFormed new)
