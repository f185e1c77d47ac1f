-- What is made of build statements when all is read, whatever their scopes, pools and paths stand for.
use Rattle.std.specs.Prelude.{◌≡◌, ℕ, List, [], map, Result, String}
use Rattle.std.specs.Map.Iter.{deref}
use Rattle.std.specs.List.{AllZip}
use Rattle.std.specs.declared.alloc.Global.{Global}
use Rattle.model.specs.declared.graph.Pool.{Pool}
use Rattle.paths.specs.declared.line.Line.{Line}
use Rattle.paths.specs.declared.manifest.Action.{Action}
use Rattle.paths.specs.declared.manifest.Action.TheVariants.{Command as OfCommand}
use Rattle.paths.specs.declared.manifest.Command.{Command}
use Rattle.paths.specs.Told.{edge_of, texts_at}
use Rattle.scopes.specs.declared.all_scopes.Scopes.{Scopes}
use Rattle.scopes.specs.declared.template.Rule.{Rule}
use Rattle.scopes.specs.declared.usage.Paths.{Paths}
use Rattle.scopes.specs.Moves.{Move}
use Rattle.scopes.specs.Scopes.{IsScopesOf}
use Rattle.manifest.specs.declared.edges.Shown.{Shown}
use Rattle.manifest.specs.declared.fault.ReadError.{ReadError}
use Rattle.manifest.specs.declared.kept.ReadEdge.{ReadEdge}
use Rattle.manifest.specs.declared.values.Values.{Values}
use Rattle.manifest.specs.Answer.{Answer, IsAnswerOf}
use Rattle.manifest.specs.Edges.{OfEdge, OfEdges, CommandValues, ExpandedValues, CheckedPool, CheckedDeps, IsEdgeOf}
use Rattle.manifest.specs.Held.{IsBuildOf, ArePools, IsLineFor, ShowsPaths, ShowsQuoted, in_edge, in_edges}
use Rattle.manifest.specs.InNumbers.{HasNumbers, numbers_without, paths_at}
use Rattle.manifest.specs.States.{Build}

-- the pools as they are kept: names and depths
abbrev pub KeptPools : Type 0
KeptPools = List (String Global × ℕ)

-- what is said of a past, pools and a statement, or statements
abbrev pub OnBuild : Type 1
OnBuild = List Move → List Pool → Build → Type 0

abbrev pub OnBuilds : Type 1
OnBuilds = List Move → List Pool → List Build → Type 0

-- ---- one statement

-- these are the texts of the line's explicit inputs and outputs
pub record IsShownOf (table : List (List ℕ)) (line : Line) (shown : Shown) : Type 0 where
  pub inputs : map deref shown.inputs.items ≡ texts_at table line.explicit_inputs
  pub outputs : map deref shown.outputs.items ≡ texts_at table line.explicit_outputs

-- of each past of the scopes, with the pools that are kept, and each statement that the edge keeps
abbrev pub IfKept : Scopes → KeptPools → ReadEdge → List Move → List Pool → Build → Type 0 → Type 0
IfKept scopes pools edge past said build P = IsScopesOf scopes past → ArePools pools said → IsBuildOf edge build → P

abbrev pub OfEach : Scopes → KeptPools → ReadEdge → OnBuild → Type 0
OfEach scopes pools edge P = (past : List Move) (said : List Pool) (build : Build)
    → IfKept scopes pools edge past said build (P past said build)

-- the edge that was made for the line, or why none was, is that of the statement
abbrev pub IsMadeFor : List (List ℕ) → List (List ℕ) → Line → Result Action ReadError → OnBuild
IsMadeFor old new line result past said build =
    IsLineFor old build line → IsAnswerOf (OfEdge past said build) (in_edge new line result)

abbrev pub HasValues : Paths → Rule → Result Values ReadError → OnBuild
HasValues plain rule result past said build = ShowsPaths plain build → IsAnswerOf (CommandValues past said build rule) result

-- the same without pools, where these are the paths of the statement
abbrev pub OfEachUse : Scopes → ReadEdge → Paths → (List Move → Build → Type 0) → Type 0
OfEachUse scopes edge plain P = (past : List Move) (build : Build)
    → IsScopesOf scopes past → IsBuildOf edge build → ShowsPaths plain build → P past build

abbrev pub Expands : Rule → Result Values ReadError → List Move → Build → Type 0
Expands rule result past build = IsAnswerOf (ExpandedValues past build rule) result

abbrev pub AreQuoted : Paths → Rule → Result Values ReadError → List Move → Build → Type 0
AreQuoted words rule result past build = ShowsQuoted words build → Expands rule result past build

-- a pool that was declared nowhere, and `deps` that are not taken, are refused
abbrev pub OfEachPools : KeptPools → ReadEdge → (List Pool → Build → Type 0) → Type 0
OfEachPools pools edge P = (said : List Pool) (build : Build) → ArePools pools said → IsBuildOf edge build → P said build

abbrev pub IsPoolChecked : KeptPools → ReadEdge → Values → Answer → Type 0
IsPoolChecked pools edge values result = OfEachPools pools edge (λ said build. IsAnswerOf (CheckedPool said build values) result)

abbrev pub AreDepsChecked : ReadEdge → Values → Answer → Type 0
AreDepsChecked edge values result = (build : Build) → IsBuildOf edge build → IsAnswerOf (CheckedDeps build values) result

-- what the command does is what the values say, on whatever line
abbrev pub IsCommandOf : List (List ℕ) → Values → Command → Type 0
IsCommandOf table values command =
    (line : Line) → IsEdgeOf (paths_at table line) values (edge_of table line (OfCommand command))

-- those of the paths are kept that are none of the outputs
abbrev pub AreKeptOf : List ℕ → List ℕ → List ℕ → Type 0
AreKeptOf outputs paths kept = (numbers : List ℕ) → HasNumbers outputs numbers → kept ≡ numbers_without numbers paths

-- ---- all statements

abbrev pub IfAllKept : Scopes → KeptPools → List ReadEdge → List Move → List Pool → List Build → Type 0 → Type 0
IfAllKept scopes pools edges past said builds P =
    IsScopesOf scopes past → ArePools pools said → AllZip IsBuildOf edges builds → P

abbrev pub OfAll : Scopes → KeptPools → List ReadEdge → OnBuilds → Type 0
OfAll scopes pools edges P = (past : List Move) (said : List Pool) (builds : List Build)
    → IfAllKept scopes pools edges past said builds (P past said builds)

abbrev pub AreMadeFor : List (List ℕ) → List (List ℕ) → List Line → Result (List Action) ReadError → OnBuilds
AreMadeFor old new lines result past said builds =
    AllZip (IsLineFor old) builds lines → IsAnswerOf (OfEdges past said builds []) (in_edges new lines result)
