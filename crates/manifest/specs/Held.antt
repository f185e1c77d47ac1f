-- What the reader keeps of what was said so far.
use Rattle.std.specs.Prelude.{◌≡◌, ◌≢◌, ℕ, ◌<◌, ◌≤◌, vec_len, ◌++◌, [], List, length, Option, None, Some, Result, Ok, Err, String, string_bytes, map}
use Rattle.std.specs.List.{AllZip, AllByRecursion}
use Rattle.std.specs.Option.{option_map}
use Rattle.std.specs.Map.Iter.{deref}
use Rattle.model.specs.declared.graph.Edge.{Edge}
use Rattle.paths.specs.declared.line.Line.{Line}
use Rattle.paths.specs.declared.manifest.Action.{Action}
use Rattle.paths.specs.Told.{edge_of, edges_of}
use Rattle.scopes.specs.declared.usage.Paths.{Paths}
use Rattle.scopes.specs.declared.all_scopes.Scopes.{Scopes}
use Rattle.scopes.specs.Block.{block_value}
use Rattle.scopes.specs.Moves.{Move}
use Rattle.scopes.specs.Scopes.{IsScopesOf}
use Rattle.manifest.specs.declared.kept.Declared.{Declared}
use Rattle.manifest.specs.declared.kept.ReadEdge.{ReadEdge}
use Rattle.manifest.specs.declared.kept.Named.{Named}
use Rattle.manifest.specs.declared.fault.ReadError.{ReadError}
use Rattle.manifest.specs.declared.fault.ReadError.TheVariants.{Memory}
use Rattle.manifest.specs.declared.kept.ReadDefault.{ReadDefault}
use Rattle.manifest.specs.Readings.{Outcome}
use Rattle.manifest.specs.Readings.Outcome.{Reached}
use Rattle.lexer.specs.Quote.{quoted}
use Rattle.lexer.specs.Said.{BuildForm}
use Rattle.manifest.specs.Spelled.{EdgePaths}
use Rattle.manifest.specs.Answer.{IsFaultOf, ArePathsOnly}
use Rattle.manifest.specs.States.{State, Build, Default, named, all_of}
use Rattle.manifest.specs.Declarations.{most_edges}
use Rattle.manifest.specs.Edges.{outputs_of, without}
use Rattle.manifest.specs.InNumbers.{AreKeys, IsWithin, paths_at}
use Rattle.scopes.specs.declared.template.Rule.{Rule}
use Rattle.manifest.specs.Blocks.{RuleText, IsRuleOf}
use Rattle.std.specs.declared.alloc.Global.{Global}
use Rattle.lexer.specs.declared.fault.FaultKind.TheVariants.{TooLarge}
use Rattle.model.specs.declared.graph.Pool.{Pool}
use Rattle.scopes.specs.declared.fault.UseFault.{UseFault}
use Rattle.scopes.specs.declared.fault.UseFault.TheVariants.{Memory as UseMemory, Circle as UseCircle, TooLarge as UseTooLarge}
use Rattle.manifest.specs.declared.fault.FaultKind.TheVariants.{Line as OfLine, Circle}
use Rattle.manifest.specs.Places.{IsFaultAt}
use Rattle.manifest.specs.Expansion.{bound}

-- the edge keeps all of the build statement
pub record IsBuildOf (edge : ReadEdge) (build : Build) : Type 0 where
  pub file : edge.file.value ≡ build.place.file
  pub line : edge.line ≡ build.place.line
  pub scope : edge.scope ≡ build.scope
  pub rule_name : edge.rule_name ≡ build.rule_name
  pub rule : option_map (λ rule. rule.value) edge.rule ≡ build.rule
  pub block : (name : List ℕ) → block_value edge.block name ≡ bound build.block name

pub record IsDefaultOf (kept : ReadDefault) (default : Default) : Type 0 where
  pub file : kept.file.value ≡ default.place.file
  pub line : kept.line ≡ default.place.line
  pub path : kept.path ≡ default.path

-- the edge's scope was entered
abbrev pub IsInScope : Scopes → ReadEdge → Type 0
IsInScope scopes edge = edge.scope < vec_len scopes.scopes

abbrev pub pool_of : String Global × ℕ → Pool
pool_of entry = record { name = string_bytes entry.0; depth = entry.1 }

abbrev pub ArePools : List (String Global × ℕ) → List Pool → Type 0
ArePools entries pools = map pool_of entries ≡ pools

-- ---- the paths of a build statement

-- a phony keeps no input that is an output of its own
abbrev pub kept_of : Option Rule → EdgePaths → EdgePaths
kept_of None paths = record {
  explicit_outputs = paths.explicit_outputs;
  implicit_outputs = paths.implicit_outputs;
  explicit_inputs = without (outputs_of paths) paths.explicit_inputs;
  implicit_inputs = without (outputs_of paths) paths.implicit_inputs;
  order_only_inputs = without (outputs_of paths) paths.order_only_inputs;
  validations = paths.validations;
}
kept_of (Some rule) paths = paths

-- the line keeps the paths of the build statement
pub record IsLineFor (table : List (List ℕ)) (build : Build) (line : Line) : Type 0 where
  pub within : IsWithin table line
  pub paths : paths_at table line ≡ kept_of build.rule build.paths

pub record AreNamed (kept : Named) (builds : List Build) : Type 0 where
  pub keys : AreKeys kept.table (named builds)
  pub lines : AllZip (IsLineFor kept.table) builds kept.lines
  pub few : length kept.lines ≤ most_edges

-- the paths that a command shows are those of the build statement
pub record ShowsPaths (shown : Paths) (build : Build) : Type 0 where
  pub inputs : map deref shown.inputs.now ≡ build.paths.explicit_inputs
  pub outputs : map deref shown.outputs.now ≡ build.paths.explicit_outputs

pub record ShowsQuoted (shown : Paths) (build : Build) : Type 0 where
  pub inputs : map deref shown.inputs.now ≡ map quoted build.paths.explicit_inputs
  pub outputs : map deref shown.outputs.now ≡ map quoted build.paths.explicit_outputs

-- answers, with texts in the place of numbers
abbrev pub in_edge : List (List ℕ) → Line → Result Action ReadError → Result Edge ReadError
in_edge table line (Ok action) = Ok (edge_of table line action)
in_edge table line (Err error) = Err error

abbrev pub in_edges : List (List ℕ) → List Line → Result (List Action) ReadError → Result (List Edge) ReadError
in_edges table lines (Ok actions) = Ok (edges_of table lines actions)
in_edges table lines (Err error) = Err error

abbrev pub is_done : {T : Type 0} → Result T ReadError → Result (Unit {0}) ReadError
is_done (Ok value) = Ok tt
is_done (Err error) = Err error

-- ---- what is kept

pub record IsStateOf (declared : Declared) (state : State) : Type 0 where
  pub scopes : IsScopesOf declared.scopes state.past
  pub edges : AllZip IsBuildOf declared.edges.items state.builds
  pub pools : ArePools declared.pools.entries state.pools
  pub defaults : AllZip IsDefaultOf declared.defaults.items state.defaults
  pub paths : AreNamed declared.paths state.builds

-- of each state that is kept
abbrev pub InEachState : Declared → (State → Type 0) → Type 0
InEachState kept P = (state : State) → IsStateOf kept state → P state

-- the call's answer, and what is kept after it, are those of the reading
abbrev pub Says : Result (Unit {0}) ReadError → Declared → (Outcome State → Type 0) → Type 0
Says (Ok value) after reading = (state : State) × IsStateOf after state × reading (Reached state)
Says (Err error) after reading = IsFaultOf reading error

-- the scopes that are open stay open
pub record KeepsScopes (old new : Declared) : Type 0 where
  pub present : new.scopes.present ≡ old.scopes.present
  pub outer : new.scopes.outer.items ≡ old.scopes.outer.items

-- the rule keeps the texts of the reading
abbrev pub SaysRule : Result Rule ReadError → (Outcome (List RuleText) → Type 0) → Type 0
SaysRule (Ok rule) reading = (texts : List RuleText) × IsRuleOf texts rule × reading (Reached texts)
SaysRule (Err error) reading = IsFaultOf reading error

-- ---- what makes a graph well formed

-- a build line has an output
abbrev pub HasOutput : BuildForm → Type 0
HasOutput form = form.explicit_outputs ++ form.implicit_outputs ≢ []

pub record ArePathsFormed (paths : EdgePaths) : Type 0 where
  pub made : paths.explicit_outputs ++ paths.implicit_outputs ≢ []
  pub all : ArePathsOnly (all_of paths)

-- each line that is kept has canonical paths and an output
abbrev pub AreLinesFormed : Named → Type 0
AreLinesFormed kept = AllByRecursion (λ (line : Line). IsWithin kept.table line × ArePathsFormed (paths_at kept.table line)) kept.lines

-- each edge that is kept has a scope that was entered
pub record IsFormed (declared : Declared) : Type 0 where
  pub past : List Move
  pub scopes : IsScopesOf declared.scopes past
  pub edges : AllByRecursion (IsInScope declared.scopes) declared.edges.items
  pub paths : AreLinesFormed declared.paths

-- the refusal where the rule of a statement cannot be expanded
abbrev pub IsUseRefused : {T : Type 0} → Build → UseFault → Result T ReadError → Type 0
IsUseRefused build fault (Ok value) = ⊥
IsUseRefused build UseMemory (Err error) = error ≡ Memory
IsUseRefused build UseCircle (Err error) = IsFaultAt build.place (Circle build.rule_name) error
IsUseRefused build UseTooLarge (Err error) = IsFaultAt build.place (OfLine TooLarge) error
