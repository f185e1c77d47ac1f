-- Records of paths that a graph got.
use Rattle.std.proofs.Common.{◌≡◌, ◌≤◌, ℕ, List, [], ◌++◌, length, take, sym, ◌∙◌, ap, subst, append_assoc, arith}
use Rattle.std.proofs.lemmas.List.{append-nil, length-append}
use Rattle.model.specs.declared.record.Record.{Record}
use Rattle.model.specs.declared.record.DepsRecord.{DepsRecord}
use Rattle.model.specs.Records.{in_force, deps_in_force}
use Rattle.graph.specs.declared.graph.Graph.{Graph}
use Rattle.graph.specs.Linked.{StandFor}
use Rattle.graph.specs.Links.{links_of}
use Rattle.graph.specs.Told.{declared_by}
use Rattle.log_text.specs.BuildLog.{Keeps, makings}
use Rattle.log_text.specs.DepsLog.{Keeps as KeepsDeps, tolds}
use Rattle.records.specs.Held.{ArePlaces}
use Rattle.records.specs.Known.{IsOf, IsOfDeps, AreKnown}
use Rattle.records.specs.declared.logs.Logs.{Logs}
use Rattle.records.specs.declared.records.Records.{Records}
use Rattle.records.proofs.Places.{fewer_fit, fewer_placed}

-- the paths of which records were known stand in front of those of the grown graph, too
pub known_front : (graph before : Graph) (more : List (List ℕ)) (rs : List Record) (ds : List DepsRecord) (records : Records) → graph.manifest.paths ≡ before.manifest.paths ++ more → (known : AreKnown before rs ds records)
    → graph.manifest.paths ≡ known.paths ++ (known.more ++ more)
known_front graph before more rs ds records grows known = grows ∙ (ap (λ (l : List (List ℕ)). l ++ more) known.grown ∙ append_assoc known.paths known.more more)

-- none of the numbers that were known is past these paths
pub known_fits : (graph before : Graph) (more : List (List ℕ)) (rs : List Record) (ds : List DepsRecord) (records : Records) → graph.manifest.paths ≡ before.manifest.paths ++ more → (known : AreKnown before rs ds records) → length known.paths ≤ length graph.manifest.paths
known_fits graph before more rs ds records grows known =
    let is = ap (λ (l : List (List ℕ)). length l) (known_front graph before more rs ds records grows known) in
    let size = length-append known.paths (known.more ++ more) in
    omega (arith, is, size)

-- what is known of all paths of a graph is known
pub known_all : (graph : Graph) → StandFor (declared_by graph).edges graph.manifest.paths (links_of graph) → (rs : List Record) (ds : List DepsRecord) (records : Records) → IsOf rs graph.manifest.paths records → IsOfDeps ds graph.manifest.paths records → AreKnown graph rs ds records
known_all graph stand rs ds records known told = record {
  paths = graph.manifest.paths;
  more = [];
  grown = sym (append-nil graph.manifest.paths);
  outputs = stand.outputs_within;
  known = known;
  told = told;
}

-- what was known of more paths than the graph has is known of the graph
pub known_fewer : (graph : Graph) → StandFor (declared_by graph).edges graph.manifest.paths (links_of graph) → (more : List (List ℕ)) (rs : List Record) (ds : List DepsRecord) (old new : Records) → new.logs ≡ old.logs
    → new.places.items ≡ take (length graph.manifest.paths) old.places.items → new.deps_places.items ≡ take (length graph.manifest.paths) old.deps_places.items
    → IsOf rs (graph.manifest.paths ++ more) old → IsOfDeps ds (graph.manifest.paths ++ more) old → AreKnown graph rs ds new
known_fewer graph stand more rs ds old new logs places deps_places known told = known_all graph stand rs ds new
    (record {
      keeps = subst (λ (l : Logs). Keeps rs l.build_log.log) (sym logs) known.keeps;
      fits = rw places (fewer_fit (length graph.manifest.paths) old.places.items);
      made = subst (ArePlaces makings in_force rs graph.manifest.paths) (sym places) (fewer_placed makings in_force rs graph.manifest.paths more old.places.items known.made);
    })
    (record {
      keeps = subst (λ (l : Logs). KeepsDeps ds l.deps_log.log) (sym logs) told.keeps;
      fits = rw deps_places (fewer_fit (length graph.manifest.paths) old.deps_places.items);
      told = subst (ArePlaces tolds deps_in_force ds graph.manifest.paths) (sym deps_places) (fewer_placed tolds deps_in_force ds graph.manifest.paths more old.deps_places.items told.told);
    })
