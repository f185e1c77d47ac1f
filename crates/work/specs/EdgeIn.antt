-- An edge of a graph, by its place.
use Rattle.std.specs.Prelude.{ℕ, suc}
use Rattle.model.specs.declared.graph.Edge.{Edge}
use Rattle.model.specs.Graph.{edge_at}
use Rattle.graph.specs.declared.graph.Graph.{Graph}
use Rattle.graph.specs.Told.{declared_by}

-- as the graph declares it
abbrev pub edge_in : Graph → ℕ → Edge
edge_in graph edge = edge_at (declared_by graph).edges (suc edge)
