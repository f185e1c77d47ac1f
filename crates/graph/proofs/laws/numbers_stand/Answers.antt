use Rattle.std.proofs.Common.{refl}
use Rattle.graph.specs.Links.{links_of}
use Rattle.graph.specs.Told.{declared_by, recorded_by}
use Rattle.graph.proofs.GraphIs.{edge_is, graph_is, links_are}
use Rattle.graph.proofs.laws.numbers_stand.Goals as goal

pub returns-clause-linked : goal.returns-clause-linked
returns-clause-linked c = λ recorded same.
    let graph = c.args.graph.now in
    links_are (declared_by graph).edges recorded graph.manifest.paths (links_of graph) (graph_is graph recorded same)

pub returns-clause-numbered : goal.returns-clause-numbered
returns-clause-numbered c = let graph = c.args.graph.now in (graph_is graph (recorded_by graph) (λ i p. refl)).numbered

pub returns-clause-edges : goal.returns-clause-edges
returns-clause-edges c = edge_is c.args.graph.now
