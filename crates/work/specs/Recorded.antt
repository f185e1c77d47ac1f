-- The recorded inputs that are in use, in the graph.
use Rattle.std.specs.Prelude.{◌≡◌, ◌<◌, ◌==◌, ◌+◌, ℕ, suc, Bool, false, true, List, [], ◌++◌, length, take, Option, Some, None, is_some, slice_get, get_or, if◌then◌else◌}
use Rattle.std.specs.List.{list_all}
use Rattle.model.specs.declared.act.Act.{Act}
use Rattle.model.specs.declared.graph.Edge.{Edge}
use Rattle.model.specs.declared.record.Record.{Record}
use Rattle.model.specs.declared.record.DepsRecord.{DepsRecord}
use Rattle.model.specs.Graph.{has, has_number, outputs}
use Rattle.model.specs.Records.{Store, in_force, deps_in_force, is_known, all_paths_in, recorded_inputs}
use Rattle.paths.specs.Told.{text_at, texts_at}
use Rattle.graph.specs.declared.graph.Graph.{Graph}
use Rattle.graph.specs.Fronts.{FrontsStay}
use Rattle.graph.specs.Held.{list_at}
use Rattle.graph.specs.Told.{declared_by, recorded_by, AreSameInputs}
use Rattle.log_text.specs.Kept.{joined, if_some, texts_at as logged_at}
use Rattle.records.specs.declared.records.Records.{Records}
use Rattle.records.specs.Known.{IsOf, IsOfDeps, AreKnown}
use Rattle.judge.specs.Facts.{AreKnownOf}
use Rattle.log_text.specs.declared.deps.Deps.{Deps}
use Rattle.graph.specs.Links.{links_of}
use Rattle.work.specs.EdgeIn.{edge_in}
use Rattle.work.specs.declared.recorded.Numbers.{Numbers}

-- each of these outputs has a record of this act in force, and a deps record of the same start
abbrev pub are_known : List Record → List DepsRecord → Act → List (List ℕ) → Bool
are_known rs ds act os = list_all (λ o. is_known act (in_force rs o) (deps_in_force ds o)) os

-- the recorded inputs of the edge are in use: so it is of its outputs; it has a command, and no dyndep file is still to be loaded
abbrev pub is_in_use : List Record → List DepsRecord → Edge → Bool
is_in_use rs ds e = if e.phony then false else (if is_some e.dyndep then false else are_known rs ds e.act (outputs e))

-- the recorded inputs of the graph are those that are in use by this store
abbrev pub IsRecordedBy : Graph → Store → Type 0
IsRecordedBy graph store = AreSameInputs (recorded_inputs store (declared_by graph).edges) (recorded_by graph)

-- the graph has more paths, behind those that it had, and declares what it did
pub record HasMorePaths (old new : Graph) : Type 0 where
  pub more : List (List ℕ)
  pub paths : new.manifest.paths ≡ old.manifest.paths ++ more
  pub declared : declared_by new ≡ declared_by old
  pub named : new.manifest.named ≡ old.manifest.named
  pub defaults : new.manifest.defaults ≡ old.manifest.defaults
  pub lines : new.manifest.lines ≡ old.manifest.lines
  pub actions : new.manifest.actions ≡ old.manifest.actions
  pub makers : new.makers ≡ old.makers
  pub users : FrontsStay old.users new.users

-- so it has, and records what it did
pub record HasOnlyMorePaths (old new : Graph) : Type 0 where
  pub grown : HasMorePaths old new
  pub recorded : new.recorded ≡ old.recorded

-- each path of the deps log that has a number here has it in the graph
abbrev pub AreNumbered : Graph → List (List ℕ) → List (Option ℕ) → Type 0
AreNumbered graph texts numbers =
    (k n : ℕ) → get_or numbers k None ≡ Some n → (n < length graph.manifest.paths) × (slice_get texts k ≡ Some (text_at graph.manifest.paths n))

-- one more path of the deps log has a number
abbrev pub IsNumberedToo : ℕ → ℕ → List (Option ℕ) → List (Option ℕ) → Type 0
IsNumberedToo path number old new = (k : ℕ) → get_or new k None ≡ (if k == path then Some number else get_or old k None)

-- the place among deps records of what is in force for a path
abbrev pub deps_place : Records → ℕ → Option ℕ
deps_place records p = joined (slice_get records.deps_places.items p)

-- the texts of the paths that the deps log knows
abbrev pub texts_of : Records → List (List ℕ)
texts_of records = records.logs.deps_log.log.outputs

-- what the records in force of the first so many outputs name
abbrev pub named_by : List (List ℕ) → List DepsRecord → List ℕ → ℕ → List (List ℕ)
named_by paths ds outputs count = all_paths_in ds (texts_at paths (take count outputs))

-- the output at this place has the deps record of the one before it
pub record IsShared (records : Records) (outputs : List ℕ) (place : ℕ) : Type 0 where
  pub before : ℕ
  pub next : place ≡ suc before
  pub same : deps_place records (get_or outputs before 0) ≡ deps_place records (get_or outputs place 0)

-- these numbers of the graph have just these paths, whatever their order and how often they stand there
pub record HaveJust (graph : Graph) (numbers : List ℕ) (paths : List (List ℕ)) : Type 0 where
  pub within : (k n : ℕ) → slice_get numbers k ≡ Some n → n < length graph.manifest.paths
  pub same : (p : List ℕ) → has (texts_at graph.manifest.paths numbers) p ≡ has paths p

-- the recorded inputs of the edge are those in use by these records
abbrev pub IsJoined : Graph → List Record → List DepsRecord → ℕ → Type 0
IsJoined graph rs ds e = (p : List ℕ) → has (recorded_by graph (suc e)) p ≡ has (recorded_inputs (record { records = rs; deps = ds }) (declared_by graph).edges (suc e)) p

-- the other edges have what they had
abbrev pub KeepsOtherEdges : ℕ → Graph → Graph → Type 0
KeepsOtherEdges edge old new = (e : ℕ) → (e ≡ edge → ⊥) → list_at new.recorded e ≡ list_at old.recorded e

-- what the edge has recorded is among those
abbrev pub MayBeJoined : Graph → List Record → List DepsRecord → ℕ → Type 0
MayBeJoined graph rs ds e = (p : List ℕ) → has (recorded_by graph (suc e)) p ≡ true → has (recorded_inputs (record { records = rs; deps = ds }) (declared_by graph).edges (suc e)) p ≡ true

-- these are edges of the graph
abbrev pub AreEdgesIn : Graph → List ℕ → Type 0
AreEdgesIn graph edges = (e : ℕ) → has_number edges e ≡ true → e < length graph.manifest.lines

-- so it is of each of these edges
abbrev pub AreToJoin : List ℕ → Graph → List Record → List DepsRecord → Type 0
AreToJoin edges graph rs ds = (e : ℕ) → has_number edges e ≡ true → MayBeJoined graph rs ds e

-- just these edges got the recorded inputs that are in use by these records, and nothing else is changed but that there are more paths
pub record HasJoinedOf (edges : List ℕ) (old new : Graph) (rs : List Record) (ds : List DepsRecord) : Type 0 where
  pub grown : HasMorePaths old new
  pub joined : (e : ℕ) → has_number edges e ≡ true → IsJoined new rs ds e
  pub others : (e : ℕ) → has_number edges e ≡ false → list_at new.recorded e ≡ list_at old.recorded e

-- the graph has more paths, and only these edges may have got recorded inputs
pub record HasGrownAt (edges : List ℕ) (old new : Graph) : Type 0 where
  pub grown : HasMorePaths old new
  pub others : (e : ℕ) → has_number edges e ≡ false → list_at new.recorded e ≡ list_at old.recorded e

-- so they did, of whatever records these are
abbrev pub Joins : List ℕ → Graph → Graph → Records → Type 0
Joins edges old new records = (rs : List Record) (ds : List DepsRecord) → AreKnown old rs ds records → AreToJoin edges old rs ds → HasJoinedOf edges old new rs ds

-- Of each of these edges the recorded inputs of the graph are those in use by these records; the others have none.
pub record AreJoined (graph : Graph) (rs : List Record) (ds : List DepsRecord) (count : ℕ) : Type 0 where
  pub joined : (e : ℕ) → e < count → (p : List ℕ) → has (recorded_by graph (suc e)) p ≡ has (recorded_inputs (record { records = rs; deps = ds }) (declared_by graph).edges (suc e)) p
  pub others : (e : ℕ) → (e < count → ⊥) → recorded_by graph (suc e) ≡ []

-- The graph got the recorded inputs that are in use by these records, each once for an edge, and nothing else is changed but that it
-- has more paths.
pub record HasJoined (old new : Graph) (rs : List Record) (ds : List DepsRecord) (records : Records) : Type 0 where
  pub grown : HasMorePaths old new
  pub known : AreKnown new rs ds records
  pub in_use : (store : Store) → store.records ≡ rs → store.deps ≡ ds → IsRecordedBy new store

-- no edge has a recorded input
abbrev pub IsUnrecorded : Graph → Type 0
IsUnrecorded graph = (i : ℕ) → recorded_by graph i ≡ []

-- some records are known of the graph
abbrev pub KnowsSome : Graph → Records → Type 0
KnowsSome graph records = (rs : List Record) × (ds : List DepsRecord) × AreKnown graph rs ds records

-- whether the recorded inputs of the edge are in use, by whatever records are known
abbrev pub TellsUse : Graph → Records → ℕ → Bool → Type 0
TellsUse graph records edge used = (rs : List Record) (ds : List DepsRecord) → AreKnown graph rs ds records → used ≡ is_in_use rs ds (edge_in graph edge)

-- each path of the deps log has the number here that it had
abbrev pub NumbersStay : List (Option ℕ) → List (Option ℕ) → Type 0
NumbersStay old new = (k : ℕ) → get_or new k None ≡ get_or old k None

-- ---- what the functions of this crate leave

-- the records are known of the graph, and no edge of it has a recorded input: then those that are in use join it
abbrev pub JoinsAll : Graph → Graph → Records → Type 0
JoinsAll old new records = (rs : List Record) (ds : List DepsRecord) → AreKnown old rs ds records → IsUnrecorded old → HasJoined old new rs ds records

-- the recorded inputs of the edge are those in use, where what it had are among them
abbrev pub JoinsEdge : Graph → Graph → Records → ℕ → Type 0
JoinsEdge old new records edge = (rs : List Record) (ds : List DepsRecord) → AreKnown old rs ds records → MayBeJoined old rs ds edge → IsJoined new rs ds edge

-- paths of the deps log keep the numbers that they have
abbrev pub StayNumbered : Graph → Graph → Records → Numbers → Numbers → Type 0
StayNumbered old new records was now = AreNumbered old (texts_of records) was.known.items → AreNumbered new (texts_of records) now.known.items

-- these paths come behind just those that the numbers had
abbrev pub AddsJust : Graph → Graph → Records → Numbers → List ℕ → List ℕ → List (List ℕ) → Type 0
AddsJust old new records numbers before after added = (paths : List (List ℕ)) → AreNumbered old (texts_of records) numbers.known.items → HaveJust old before paths → HaveJust new after (paths ++ added)

-- those that a deps record names do
abbrev pub AddsLogged : Graph → Graph → Records → Numbers → List ℕ → List ℕ → Deps → Type 0
AddsLogged old new records numbers before after deps = AddsJust old new records numbers before after (logged_at (texts_of records) deps.paths)

-- the path of the deps log does that has this number there, if one has
abbrev pub AddsText : Graph → Graph → Records → Numbers → List ℕ → List ℕ → ℕ → Type 0
AddsText old new records numbers before after path = AddsJust old new records numbers before after (if_some (slice_get (texts_of records) path))

-- what the records in force of the outputs name, up to one output more
abbrev pub AddsNamed : Graph → Graph → Records → Numbers → List ℕ → List ℕ → ℕ → ℕ → Type 0
AddsNamed old new records numbers before after edge place =
    (paths : List (List ℕ)) (rs : List Record) (ds : List DepsRecord) → AreKnownOf paths ((links_of old).outputs edge) rs ds records → AreNumbered old (texts_of records) numbers.known.items
    → HaveJust old before (named_by paths ds ((links_of old).outputs edge) place) → HaveJust new after (named_by paths ds ((links_of old).outputs edge) (place + 1))

-- all that they name
abbrev pub PutsNamed : Graph → Graph → Records → Numbers → List ℕ → ℕ → Type 0
PutsNamed old new records numbers inputs edge =
    (rs : List Record) (ds : List DepsRecord) → AreKnown old rs ds records → AreNumbered old (texts_of records) numbers.known.items → HaveJust new inputs (all_paths_in ds (outputs (edge_in old edge)))

-- of whatever texts of the deps log, of which this path has this text, paths keep the numbers that they have,
abbrev pub StayNumberedBy : Graph → Graph → ℕ → List ℕ → Numbers → Numbers → Type 0
StayNumberedBy old new path text was now = (texts : List (List ℕ)) → slice_get texts path ≡ Some text → AreNumbered old texts was.known.items → AreNumbered new texts now.known.items

-- and this is the number of the path
abbrev pub IsNumberBy : Graph → Graph → ℕ → List ℕ → Numbers → ℕ → Type 0
IsNumberBy old new path text was number =
    (texts : List (List ℕ)) → slice_get texts path ≡ Some text → AreNumbered old texts was.known.items → (number < length new.manifest.paths) × (text_at new.manifest.paths number ≡ text)

-- ---- what is known of outputs

-- whether the output is known to be of this act, by whatever records these are
abbrev pub IsKnownBy : Act → ℕ → Records → Bool → Type 0
IsKnownBy act output records known =
    (paths : List (List ℕ)) (rs : List Record) (ds : List DepsRecord) → IsOf rs paths records → IsOfDeps ds paths records → output < length paths
    → known ≡ is_known act (in_force rs (text_at paths output)) (deps_in_force ds (text_at paths output))

-- whether each of them is
abbrev pub AreKnownBy : Act → List ℕ → Records → Bool → Type 0
AreKnownBy act outputs records known =
    (paths : List (List ℕ)) (rs : List Record) (ds : List DepsRecord) → AreKnownOf paths outputs rs ds records → known ≡ are_known rs ds act (texts_at paths outputs)
