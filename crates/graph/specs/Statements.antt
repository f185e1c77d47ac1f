-- Which statement of a dyndep file is chosen for which edge, and what edges get by it, in numbers.
use Rattle.std.specs.Prelude.{◌≡◌, ℕ, suc, ◌<◌, ◌++◌, ◌||◌, ◌==◌, Bool, true, false, if◌then◌else◌, List, [], map, length, get_or, slice_get, Option, Some, None, MatchOption, bytes_eq}
use Rattle.model.specs.declared.graph.Edge.{Edge}
use Rattle.model.specs.Graph.{has_number, edge_at, maker, all_outputs, Addition, IsMadeTwice}
use Rattle.dyndep.specs.declared.addition.Addition.{Addition as Statement}
use Rattle.paths.specs.declared.line.Line.{Line}
use Rattle.paths.specs.declared.manifest.Action.{Action}
use Rattle.paths.specs.declared.manifest.Action.TheVariants.{Alias, Command}
use Rattle.paths.specs.declared.manifest.Manifest.{Manifest}
use Rattle.paths.specs.Lists.{line_at, grown_line}
use Rattle.paths.specs.Commands.{no_action}
use Rattle.paths.specs.Told.{text_at, texts_at, edges_of}
use Rattle.graph.specs.declared.fault.ExtendFault.{ExtendFault}
use Rattle.graph.specs.declared.fault.ExtendFault.TheVariants.{Memory, Unfit, MadeTwice}
use Rattle.graph.specs.declared.fault.GraphFault.{GraphFault}
use Rattle.graph.specs.declared.fault.GraphFault.TheVariants as graph
use Rattle.graph.specs.declared.graph.Graph.{Graph}
use Rattle.graph.specs.declared.loaded.Gain.{Gain}
use Rattle.graph.specs.Linked.{IsFirstRepeated}
use Rattle.graph.specs.Told.{declared_by, declared_edges, path_text}
use Rattle.graph.specs.Extended.{dyndep_at, addition_of, IsUnfit}

-- whether it is this number
abbrev pub is_place : Option ℕ → ℕ → Bool
is_place None n = false
is_place (Some m) n = m == n

-- ---- statements and edges

abbrev pub is_name : List ℕ → Option (List ℕ) → Bool
is_name file None = false
is_name file (Some name) = bytes_eq name file

abbrev pub if_namer : List Edge → List ℕ → Option ℕ → Option ℕ
if_namer edges file None = None
if_namer edges file (Some i) = if is_name file (edge_at edges i).dyndep then Some i else None

-- the edge that makes the output, if it names the file
abbrev pub owner_in : List Edge → List ℕ → List ℕ → Option ℕ
owner_in edges file output = if_namer edges file (maker edges output)

-- the edge of each statement
abbrev pub owners_of : List Edge → List ℕ → List Addition → List (Option ℕ)
owners_of edges file additions = map (λ (a : Addition). owner_in edges file a.output) additions

-- the edge of the graph that makes the output, if it names the file with this number
abbrev pub owner_for : Graph → ℕ → List ℕ → Option ℕ
owner_for graph file output = owner_in (declared_edges graph) (path_text graph file) output

-- the edge of each of these statements
abbrev pub owners_for : Graph → ℕ → List Statement → List (Option ℕ)
owners_for graph file told = owners_of (declared_edges graph) (path_text graph file) (map addition_of told)

-- none of the first so many statements is of the edge
abbrev pub NoneIsOf : List (Option ℕ) → ℕ → ℕ → Type 0
NoneIsOf owners count i = (j : ℕ) → j < count → slice_get owners j ≡ Some (Some i) → ⊥

-- the statement of this place is the first of the edge
pub record IsFirstOf (owners : List (Option ℕ)) (k i : ℕ) : Type 0 where
  pub at : slice_get owners k ≡ Some (Some i)
  pub earlier : NoneIsOf owners k i

-- of the first so many statements the first one of the edge is chosen for it
abbrev pub IsChoice : List (Option ℕ) → ℕ → ℕ → Option ℕ → Type 0
IsChoice owners count e choice = MatchOption choice (NoneIsOf owners count (suc e)) (λ k. (k < count) × IsFirstOf owners k (suc e))

abbrev pub AreChoices : List (Option ℕ) → ℕ → (ℕ → Option ℕ) → Type 0
AreChoices owners count choice = (e : ℕ) → IsChoice owners count e (choice e)

-- the statement is the first of an edge
abbrev pub FitsAt : List (Option ℕ) → ℕ → Type 0
FitsAt owners k = (i : ℕ) × IsFirstOf owners k i

abbrev pub AllFitBelow : List (Option ℕ) → ℕ → Type 0
AllFitBelow owners count = (k : ℕ) → k < count → FitsAt owners k

-- the first of so many statements that is not the first of an edge
abbrev pub IsBadBelow : List (Option ℕ) → ℕ → Option ℕ → Type 0
IsBadBelow owners count bad = MatchOption bad (AllFitBelow owners count) (λ b. (b < count) × (FitsAt owners b → ⊥) × AllFitBelow owners b)

-- each edge that names the file has its statement, and each statement its edge
pub record AreChosen (graph : Graph) (file : ℕ) (additions : List Addition) (choice : ℕ → Option ℕ) : Type 0 where
  pub choices : AreChoices (owners_of (declared_by graph).edges (text_at graph.manifest.paths file) additions) (length additions) choice
  pub all : AllFitBelow (owners_of (declared_by graph).edges (text_at graph.manifest.paths file) additions) (length additions)
  pub each : (e : ℕ) → e < length graph.manifest.lines → dyndep_at graph e ≡ Some file → choice e ≡ None → ⊥

-- the edge names the file, and has no statement
pub record LacksChoice (graph : Graph) (file : ℕ) (choice : ℕ → Option ℕ) (e : ℕ) : Type 0 where
  pub within : e < length graph.manifest.lines
  pub names : dyndep_at graph e ≡ Some file
  pub none : choice e ≡ None

-- each edge that names the file has its statement
abbrev pub NoneLacks : Graph → ℕ → (ℕ → Option ℕ) → Type 0
NoneLacks graph file choice = (e : ℕ) → LacksChoice graph file choice e → ⊥

pub record IsLowestLacking (graph : Graph) (file : ℕ) (choice : ℕ → Option ℕ) (e : ℕ) : Type 0 where
  pub lacks : LacksChoice graph file choice e
  pub lowest : (k : ℕ) → k < e → LacksChoice graph file choice k → ⊥

-- the statement is given to its edge, which had none
pub record HasChosen (owner : Option ℕ) (place : ℕ) (old new : ℕ → Option ℕ) : Type 0 where
  pub edge : ℕ
  pub owns : owner ≡ Some (suc edge)
  pub none : old edge ≡ None
  pub here : new edge ≡ Some place
  pub others : (e : ℕ) → (e ≡ edge → ⊥) → new e ≡ old e

-- nothing is given, as the statement is of no edge that has none
pub record HasPassed (owner : Option ℕ) (old new : ℕ → Option ℕ) : Type 0 where
  pub same : (e : ℕ) → new e ≡ old e
  pub taken : (e : ℕ) → owner ≡ Some (suc e) → old e ≡ None → ⊥

abbrev pub IsGiven : Bool → Option ℕ → ℕ → (ℕ → Option ℕ) → (ℕ → Option ℕ) → Type 0
IsGiven true owner place old new = HasChosen owner place old new
IsGiven false owner place old new = HasPassed owner old new

-- why statements do not fit
abbrev pub IsUnfitFault : List Edge → List ℕ → List Addition → ExtendFault → Type 0
IsUnfitFault edges file additions Memory = Unit {0}
IsUnfitFault edges file additions (Unfit output) = IsUnfit edges file additions output
IsUnfitFault edges file additions (MadeTwice p) = ⊥

-- why these statements of the file with this number do not fit
abbrev pub HasUnfit : Graph → ℕ → List Statement → ExtendFault → Type 0
HasUnfit graph file told fault = IsUnfitFault (declared_edges graph) (path_text graph file) (map addition_of told) fault

-- ---- what edges get

-- the table has the same paths, and more
pub record HasMore (old new : List (List ℕ)) : Type 0 where
  pub added : List (List ℕ)
  pub grows : new ≡ old ++ added

-- the numbers of these texts
pub record AreNumbersIn (paths texts : List (List ℕ)) (numbers : List ℕ) : Type 0 where
  pub within : (p : ℕ) → has_number numbers p ≡ true → p < length paths
  pub are : texts_at paths numbers ≡ texts

-- what a statement adds, in numbers
pub record IsGainIn (paths : List (List ℕ)) (a : Addition) (gain : Gain) : Type 0 where
  pub outputs : AreNumbersIn paths a.outputs gain.outputs
  pub inputs : AreNumbersIn paths a.inputs gain.inputs

abbrev pub no_gain : Gain
no_gain = record { outputs = []; inputs = [] }

abbrev pub gain_at : List Gain → ℕ → Gain
gain_at gains k = get_or gains k no_gain

abbrev pub no_addition : Addition
no_addition = record { output = []; outputs = []; inputs = []; restat = false }

abbrev pub addition_at : List Addition → ℕ → Addition
addition_at additions k = get_or additions k no_addition

pub record AreGainsIn (paths : List (List ℕ)) (additions : List Addition) (gains : List Gain) : Type 0 where
  pub fits : length gains ≡ length additions
  pub each : (k : ℕ) → k < length additions → IsGainIn paths (addition_at additions k) (gain_at gains k)

abbrev pub gain_of : List Gain → Option ℕ → Gain
gain_of gains None = no_gain
gain_of gains (Some k) = gain_at gains k

-- the line of an edge with what it gains
abbrev pub line_with : List Gain → Line → Option ℕ → Line
line_with gains line choice = grown_line line (gain_of gains choice).outputs (gain_of gains choice).inputs

pub record AreGrownLines (lines : List Line) (choice : ℕ → Option ℕ) (gains : List Gain) (grown : List Line) : Type 0 where
  pub fits : length grown ≡ length lines
  pub each : (e : ℕ) → e < length lines → line_at grown e ≡ line_with gains (line_at lines e) (choice e)

-- the places of chosen statements are below this
abbrev pub AreChoicesBelow : ℕ → (ℕ → Option ℕ) → Type 0
AreChoicesBelow count choice = (e k : ℕ) → choice e ≡ Some k → k < count

-- what the edge does once its dyndep file is loaded
abbrev pub loaded_action : Bool → Action → Action
loaded_action restat Alias = Alias
loaded_action restat (Command command) = Command (record command { restat = command.restat || restat; dyndep = None })

abbrev pub action_with : List Addition → Action → Option ℕ → Action
action_with additions action None = action
action_with additions action (Some k) = loaded_action (addition_at additions k).restat action

abbrev pub action_at : List Action → ℕ → Action
action_at actions e = get_or actions e no_action

pub record AreLoadedActions (actions : List Action) (choice : ℕ → Option ℕ) (additions : List Addition) (loaded : List Action) : Type 0 where
  pub fits : length loaded ≡ length actions
  pub each : (e : ℕ) → action_at loaded e ≡ action_with additions (action_at actions e) (choice e)

-- ---- a manifest with what edges get

-- nothing but more paths
pub record HasOnlyMore (old new : Manifest) : Type 0 where
  pub paths : HasMore old.paths new.paths
  pub named : new.named ≡ old.named
  pub lines : new.lines ≡ old.lines
  pub actions : new.actions ≡ old.actions
  pub pools : new.pools ≡ old.pools
  pub defaults : new.defaults ≡ old.defaults
  pub builddir : new.builddir ≡ old.builddir

-- lines and actions have what the chosen statements say
pub record IsLoadedManifest (old new : Manifest) (additions : List Addition) (choice : ℕ → Option ℕ) : Type 0 where
  pub paths : HasMore old.paths new.paths
  pub gains : List Gain
  pub gained : AreGainsIn new.paths additions gains
  pub lines : AreGrownLines old.lines choice gains new.lines
  pub actions : AreLoadedActions old.actions choice additions new.actions
  pub named : new.named ≡ old.named
  pub pools : new.pools ≡ old.pools
  pub defaults : new.defaults ≡ old.defaults
  pub builddir : new.builddir ≡ old.builddir

-- the path is made twice by these edges, and is the first such one
pub record IsMadeTwiceIn (paths : List (List ℕ)) (lines : List Line) (actions : List Action) (p : List ℕ) : Type 0 where
  pub twice : IsMadeTwice (edges_of paths lines actions) p
  pub first : IsFirstRepeated (all_outputs (edges_of paths lines actions)) p

-- a path that is made twice by the edges that the manifest would have
pub record IsRemadeIn (old : Manifest) (additions : List Addition) (choice : ℕ → Option ℕ) (p : List ℕ) : Type 0 where
  pub paths : List (List ℕ)
  pub more : HasMore old.paths paths
  pub gains : List Gain
  pub gained : AreGainsIn paths additions gains
  pub lines : List Line
  pub grown : AreGrownLines old.lines choice gains lines
  pub twice : IsMadeTwiceIn paths lines old.actions p

-- why edges do not get what the statements say
abbrev pub IsLoadFault : Manifest → List Addition → (ℕ → Option ℕ) → ExtendFault → Type 0
IsLoadFault old additions choice Memory = Unit {0}
IsLoadFault old additions choice (Unfit output) = ⊥
IsLoadFault old additions choice (MadeTwice p) = IsRemadeIn old additions choice p

-- why a manifest has no makers
abbrev pub IsFaultIn : List (List ℕ) → List Line → List Action → ExtendFault → Type 0
IsFaultIn paths lines actions Memory = Unit {0}
IsFaultIn paths lines actions (Unfit output) = ⊥
IsFaultIn paths lines actions (MadeTwice p) = IsMadeTwiceIn paths lines actions p

abbrev pub IsPartsFault : Manifest → ExtendFault → Type 0
IsPartsFault manifest fault = IsFaultIn manifest.paths manifest.lines manifest.actions fault

-- the same fault; a dyndep file is never lacking here
abbrev pub extend_fault_of : GraphFault → ExtendFault
extend_fault_of graph.Memory = Memory
extend_fault_of (graph.MadeTwice p) = MadeTwice p
extend_fault_of (graph.NoDyndepInput p) = Memory
extend_fault_of (graph.Occupied occupied) = Memory
