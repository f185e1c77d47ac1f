-- The graph of texts that a graph in numbers stands for.
use Rattle.std.specs.Prelude.{◌≡◌, ℕ, zero, suc, List, [], Option, get_or}
use Rattle.model.specs.declared.graph.BuildGraph.{BuildGraph}
use Rattle.model.specs.declared.graph.Edge.{Edge}
use Rattle.model.specs.Graph.{has, edge_at, maker}
use Rattle.paths.specs.declared.manifest.Action.{Action}
use Rattle.paths.specs.Commands.{no_action}
use Rattle.paths.specs.Lists.{line_at}
use Rattle.paths.specs.Told.{graph_of, edge_of, text_at, texts_at}
use Rattle.graph.specs.declared.graph.Graph.{Graph}
use Rattle.graph.specs.Held.{list_at}

-- what the build files declare
abbrev pub declared_by : Graph → BuildGraph
declared_by graph = graph_of graph.manifest

-- the recorded inputs of the edge with this job
abbrev pub recorded_by : Graph → ℕ → List (List ℕ)
recorded_by graph zero = []
recorded_by graph (suc e) = texts_at graph.manifest.paths (list_at graph.recorded e)

-- the same paths, whatever their order and how often they stand there
abbrev pub AreSameInputs : (ℕ → List (List ℕ)) → (ℕ → List (List ℕ)) → Type 0
AreSameInputs recorded others = (i : ℕ) (p : List ℕ) → has (recorded i) p ≡ has (others i) p

-- what is said of each listing of recorded inputs that has the paths which the graph has
abbrev pub ForRecorded : Graph → ((ℕ → List (List ℕ)) → Type 0) → Type 0
ForRecorded graph P = (recorded : ℕ → List (List ℕ)) → AreSameInputs recorded (recorded_by graph) → P recorded

-- the text of a path of the graph
abbrev pub path_text : Graph → ℕ → List ℕ
path_text graph p = text_at graph.manifest.paths p

abbrev pub path_texts : Graph → List ℕ → List (List ℕ)
path_texts graph numbers = texts_at graph.manifest.paths numbers

abbrev pub declared_edges : Graph → List Edge
declared_edges graph = (declared_by graph).edges

-- the edge that counts as e in the code
abbrev pub declared_edge : Graph → ℕ → Edge
declared_edge graph e = edge_at (declared_edges graph) (suc e)

-- what it does
abbrev pub declared_action : Graph → ℕ → Action
declared_action graph e = get_or graph.manifest.actions e no_action

-- what the line at this place says, with the action there
abbrev pub line_edge : Graph → ℕ → Edge
line_edge graph e = edge_of graph.manifest.paths (line_at graph.manifest.lines e) (declared_action graph e)

-- the edge that makes the text of a path
abbrev pub declared_maker : Graph → ℕ → Option ℕ
declared_maker graph p = maker (declared_edges graph) (path_text graph p)
