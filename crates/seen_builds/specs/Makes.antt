-- What is known to be made when a build begins. All is this project's own.
use Rattle.std.specs.Prelude.{◌≡◌, ℕ, true, List, [], Some, length}
use Rattle.model.specs.declared.graph.Edge.{Edge}
use Rattle.model.specs.Graph.{has, edge_at, outputs, IsCommand}
use Rattle.paths.specs.declared.manifest.Manifest.{Manifest}
use Rattle.paths.specs.Told.{graph_of}
use Rattle.seen.specs.declared.makers.Makers.{Makers}
use Rattle.seen.specs.Makers.{listing, maker_of, pairs_of}

-- each path that an edge is known to make is an output of it, and it has a command
abbrev pub KnowsMakers : Makers → List Edge → Type 0
KnowsMakers makers edges = (p : List ℕ) (job : ℕ) → maker_of makers p ≡ Some job → (has (outputs (edge_at edges job)) p ≡ true) × IsCommand edges job

-- what is listed of a build file (`Makers::of`) is so of the graph that it declares
abbrev pub ListedAreMade : Type 0
ListedAreMade =
    (makers : Makers) (manifest : Manifest) → makers.table.entries ≡ [] → pairs_of makers.listed.items ≡ listing manifest (length manifest.lines)
    → KnowsMakers makers (graph_of manifest).edges
