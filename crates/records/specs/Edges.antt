-- What the graph of a build declares, by the number of an edge.
use Rattle.std.specs.Prelude.{ℕ, suc, List}
use Rattle.model.specs.declared.act.Act.{Act}
use Rattle.model.specs.declared.graph.Edge.{Edge}
use Rattle.model.specs.declared.record.Record.{Record}
use Rattle.model.specs.declared.record.Record.TheVariants.{Begun, Done}
use Rattle.model.specs.declared.record.DepsRecord.{DepsRecord}
use Rattle.model.specs.Graph.{edge_at, outputs}
use Rattle.graph.specs.declared.graph.Graph.{Graph}
use Rattle.graph.specs.Told.{declared_by}
use Rattle.log_text.specs.DepsRecordLine.{reported}
use Rattle.records.specs.Held.{Paths}

abbrev pub paths_in : Graph → Paths
paths_in graph = graph.manifest.paths

abbrev pub declared_edges : Graph → List Edge
declared_edges graph = (declared_by graph).edges

abbrev pub declared_edge : Graph → ℕ → Edge
declared_edge graph e = edge_at (declared_edges graph) (suc e)

abbrev pub declared_outputs : Graph → ℕ → List (List ℕ)
declared_outputs graph e = outputs (declared_edge graph e)

abbrev pub declared_act : Graph → ℕ → Act
declared_act graph e = (declared_edge graph e).act

-- the record that the command of the edge is about to start
abbrev pub begun_of : Graph → ℕ → Record
begun_of graph e = Begun (declared_outputs graph e)

-- the record that it was started under this stamp and ended well
abbrev pub done_of : Graph → ℕ → ℕ → Record
done_of graph e start = Done (declared_outputs graph e) start (declared_act graph e)

-- the record that it was started under this stamp and told that it read these paths
abbrev pub report_of : Graph → ℕ → ℕ → List (List ℕ) → DepsRecord
report_of graph e start paths = reported (declared_outputs graph e) start paths

-- a sentence of the edge with this number, said of its place among all edges
abbrev pub OfEdge : {A : Type 0} → (List Edge → ℕ → A → A → Type 0) → Graph → ℕ → A → A → Type 0
OfEdge So graph e = So (declared_edges graph) (suc e)
