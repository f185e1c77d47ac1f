-- What undoes the load of a dyndep file.
use Rattle.std.specs.Prelude.{◌≡◌, ℕ, ◌<◌, ◌++◌, Bool, true, false, List, [], ◌∷◌, length, slice_get, Option, Some, None, is_some}
use Rattle.model.specs.Graph.{has_number}
use Rattle.paths.specs.declared.manifest.Action.{Action}
use Rattle.paths.specs.declared.manifest.Action.TheVariants.{Alias, Command}
use Rattle.paths.specs.declared.manifest.Manifest.{Manifest}
use Rattle.graph.specs.declared.back.Before.{Before}
use Rattle.graph.specs.declared.back.LoadedEdge.{LoadedEdge}
use Rattle.graph.specs.declared.choice.Choice.{Choice}
use Rattle.graph.specs.declared.graph.Graph.{Graph}
use Rattle.graph.specs.declared.loaded.Gain.{Gain}
use Rattle.graph.specs.Fronts.{FrontsStay}
use Rattle.graph.specs.Gains.{HaveGainedBy, HaveGrown}
use Rattle.graph.specs.Held.{list_at, StandOnce}
use Rattle.graph.specs.LoadedEdges.{numbers_in}
use Rattle.graph.specs.Extended.{dyndep_at}
use Rattle.graph.specs.InTurn.{AreGivenTo, AreInputsBelow, AreOutputsBelow}
use Rattle.graph.specs.Statements.{is_place, action_at, HasMore}

-- ---- edges whose file was loaded

abbrev pub has_restat : Action → Bool
has_restat Alias = false
has_restat (Command command) = command.restat

-- the edge, if a statement was chosen for it
abbrev pub loaded_by : ℕ → Action → Option ℕ → List LoadedEdge
loaded_by edge action None = []
loaded_by edge action (Some k) = record { edge = edge; restat = has_restat action } ∷ []

-- those of these for which a statement was chosen
abbrev pub loaded_all : List Action → List Choice → List LoadedEdge
loaded_all actions [] = []
loaded_all actions (c ∷ cs) = loaded_by c.edge (action_at actions c.edge) c.statement ++ loaded_all actions cs

-- a statement was chosen for the edge, and it is told whether its outputs could stay as they were
pub record IsLoadedEdge (actions : List Action) (choice : ℕ → Option ℕ) (loaded : LoadedEdge) : Type 0 where
  pub some : is_some (choice loaded.edge) ≡ true
  pub restat : loaded.restat ≡ has_restat (action_at actions loaded.edge)

-- just the edges for which a statement was chosen
pub record AreLoadedEdges (actions : List Action) (choice : ℕ → Option ℕ) (edges : List LoadedEdge) : Type 0 where
  pub each : (k : ℕ) (loaded : LoadedEdge) → slice_get edges k ≡ Some loaded → IsLoadedEdge actions choice loaded
  pub all : (e : ℕ) → is_some (choice e) ≡ true → has_number (numbers_in edges) e ≡ true

-- ---- what they did

-- what the edge does that names the file and whose outputs may stay as they were, or not
abbrev pub undone : ℕ → Bool → Action → Action
undone file restat Alias = Alias
undone file restat (Command command) = Command (record command { restat = restat; dyndep = Some file })

-- where these edges name the file again, all do what they did before
pub record AreUndoneBy (file : ℕ) (edges : List LoadedEdge) (actions before : List Action) : Type 0 where
  pub fits : length before ≡ length actions
  pub within : (k : ℕ) (loaded : LoadedEdge) → slice_get edges k ≡ Some loaded → loaded.edge < length actions
  pub each : (k : ℕ) (loaded : LoadedEdge) → slice_get edges k ≡ Some loaded → undone file loaded.restat (action_at actions loaded.edge) ≡ action_at before loaded.edge
  pub others : (e : ℕ) → has_number (numbers_in edges) e ≡ false → action_at actions e ≡ action_at before e

-- the manifest was this one, but for more paths, what edges gained, and what these edges do
pub record IsManifestBefore (before now : Manifest) (gains : List Gain) (chosen : List Choice) (edges : List LoadedEdge) (file count : ℕ) : Type 0 where
  pub lines : AreGivenTo gains chosen before.lines now.lines
  pub paths : count ≡ length before.paths
  pub more : HasMore before.paths now.paths
  pub actions : AreUndoneBy file edges now.actions before.actions
  pub named : now.named ≡ before.named
  pub pools : now.pools ≡ before.pools
  pub defaults : now.defaults ≡ before.defaults
  pub builddir : now.builddir ≡ before.builddir

-- so it was before the load that this undoes
abbrev pub WasManifest : Manifest → Manifest → Before → Type 0
WasManifest was now before = IsManifestBefore was now before.gains.items before.chosen.items before.edges.items before.file before.paths

-- ---- a graph

-- This undoes the load of the file by which the one graph became the other; its edges are just those that named the file.
pub record Undoes (old loaded : Graph) (file : ℕ) (before : Before) : Type 0 where
  pub manifest : WasManifest old.manifest loaded.manifest before
  pub of : before.file ≡ file
  pub makers : before.makers ≡ length old.makers
  pub gained : HaveGainedBy before.gains.items before.chosen.items old.makers loaded.makers
  pub outputs : AreOutputsBelow (length loaded.makers) before.gains.items
  pub users : HaveGrown before.gains.items before.chosen.items old.users loaded.users
  pub inputs : AreInputsBelow (length loaded.manifest.paths) before.gains.items
  pub once : StandOnce (numbers_in before.edges.items)
  pub recorded : loaded.recorded ≡ old.recorded
  pub edges : (e : ℕ) → has_number (numbers_in before.edges.items) e ≡ is_place (dyndep_at old e) file

-- the graph got more paths, and these edges recorded inputs; nothing else is changed
pub record HasGainedAt (edges : List ℕ) (old new : Graph) : Type 0 where
  pub paths : HasMore old.manifest.paths new.manifest.paths
  pub named : new.manifest.named ≡ old.manifest.named
  pub actions : new.manifest.actions ≡ old.manifest.actions
  pub pools : new.manifest.pools ≡ old.manifest.pools
  pub defaults : new.manifest.defaults ≡ old.manifest.defaults
  pub builddir : new.manifest.builddir ≡ old.manifest.builddir
  pub lines : new.manifest.lines ≡ old.manifest.lines
  pub others : (e : ℕ) → has_number edges e ≡ false → list_at new.recorded e ≡ list_at old.recorded e
  pub makers : new.makers ≡ old.makers
  pub users : FrontsStay old.users new.users

-- the graph became this one by a load that this undoes, of edges without recorded inputs, and only these got any since then
pub record MayBeTakenBack (old loaded now : Graph) (before : Before) : Type 0 where
  pub file : ℕ
  pub undoes : Undoes old loaded file before
  pub gained : HasGainedAt (numbers_in before.edges.items) loaded now
  pub none : (e : ℕ) → has_number (numbers_in before.edges.items) e ≡ true → list_at old.recorded e ≡ []
