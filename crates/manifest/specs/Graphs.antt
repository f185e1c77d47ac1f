-- The build graph that build files declare.
use Rattle.std.specs.Prelude.{◌≡◌, ℕ, false, List, [], ◌∷◌, map, Option, None, Some, unwrap_or, codes}
use Rattle.model.specs.declared.graph.BuildGraph.{BuildGraph}
use Rattle.model.specs.declared.graph.Edge.{Edge}
use Rattle.model.specs.Graph.{has}
use Rattle.scopes.specs.Moves.{Move, value_at_end}
use Rattle.manifest.specs.declared.fault.FaultKind.TheVariants.{NotFound, UnknownDefault}
use Rattle.manifest.specs.Readings.{Outcome, Reading, Give, Refuse, Unless, Then, Where, fault_at}
use Rattle.manifest.specs.States.{State, Default, nothing, named}
use Rattle.manifest.specs.Edges.{OfEdges}
use Rattle.manifest.specs.Files.{Holds, Reads, deepest}

-- a default is named by some build line
abbrev pub OfDefault : List (List ℕ) → Default → Reading (Unit {0})
OfDefault paths default = Unless (has paths default.path ≡ false) (fault_at default.place (UnknownDefault default.path)) (Give tt)

abbrev pub OfDefaults : List (List ℕ) → List Default → Reading (Unit {0})
OfDefaults paths [] = Give tt
OfDefaults paths (default ∷ defaults) =
    Then (OfDefault paths default) (λ _. OfDefaults paths defaults)

-- the folder of the logs: the value in the outermost scope, when all is read (manual: "The Ninja log")
abbrev pub builddir_in : List Move → List ℕ
builddir_in past = unwrap_or (value_at_end past 0 (codes "builddir")) []

abbrev pub graph_of : State → List Edge → BuildGraph
graph_of state edges = record {
  edges = edges;
  pools = state.pools;
  defaults = map (λ (default : Default). default.path) state.defaults;
  builddir = builddir_in state.past;
}

-- what is seen when all is read: the faults of edges in their order, then those of defaults
abbrev pub AtEnd : State → Reading BuildGraph
AtEnd state =
    Then (OfEdges state.past state.pools state.builds []) (λ (edges : List Edge).
    Then (OfDefaults (named state.builds) state.defaults) (λ _. Give (graph_of state edges)))

abbrev pub OfMain : Holds → List ℕ → Option (List ℕ) → Reading BuildGraph
OfMain holds name None = Refuse (fault_at (record { file = name; line = 0 }) (NotFound name))
OfMain holds name (Some bytes) = Then (Reads holds deepest name bytes nothing) AtEnd

-- What the build files declare, beginning with the file of this name: a graph, or the first fault in reading order; what is
-- seen when all is read comes after that.
pub record Declares (holds : Holds) (name : List ℕ) (outcome : Outcome BuildGraph) : Type 0 where
  pub reading : Where (holds name) (λ (content : Option (List ℕ)). OfMain holds name content) outcome
