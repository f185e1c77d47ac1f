-- What the records of a build know of each path.
use Rattle.std.specs.Prelude.{◌≡◌, ◌≤◌, ◌<◌, ◌++◌, ℕ, true, List, Option, length}
use Rattle.std.specs.Borrow.{Bor}
use Rattle.model.specs.declared.record.Record.{Record}
use Rattle.model.specs.declared.record.DepsRecord.{DepsRecord}
use Rattle.model.specs.Graph.{has_number}
use Rattle.model.specs.Records.{in_force, deps_in_force}
use Rattle.graph.specs.declared.graph.Graph.{Graph}
use Rattle.graph.specs.Links.{links_of}
use Rattle.paths.specs.Told.{text_at}
use Rattle.log_text.specs.declared.done.Done.{Done}
use Rattle.log_text.specs.BuildLog.{Keeps, makings, made_in}
use Rattle.log_text.specs.declared.deps.Deps.{Deps}
use Rattle.log_text.specs.DepsLog.{Keeps as KeepsDeps, tolds, told_found}
use Rattle.records.specs.Edges.{paths_in}
use Rattle.records.specs.Held.{Paths, ArePlaces}
use Rattle.records.specs.declared.records.Records.{Records}

-- of the build log they are those of these records, for these paths by number, and know of no others
pub record IsOf (rs : List Record) (paths : List (List ℕ)) (records : Records) : Type 0 where
  pub keeps : Keeps rs records.logs.build_log.log
  pub fits : length records.places.items ≤ length paths
  pub made : ArePlaces makings in_force rs paths records.places.items

-- so they are of the deps log
pub record IsOfDeps (ds : List DepsRecord) (paths : List (List ℕ)) (records : Records) : Type 0 where
  pub keeps : KeepsDeps ds records.logs.deps_log.log
  pub fits : length records.deps_places.items ≤ length paths
  pub told : ArePlaces tolds deps_in_force ds paths records.deps_places.items

-- what is said of the records of both logs
abbrev pub OfLogs : Type 1
OfLogs = List Record → List DepsRecord → Type 0

-- they are known for all paths of the graph
abbrev pub KnowsAll : Graph → Records → OfLogs
KnowsAll graph it = λ rs ds. IsOf rs (paths_in graph) it × IsOfDeps ds (paths_in graph) it

-- whatever the build log told, and for whatever paths that was looked up
abbrev pub OfKnown : Records → (List Record → Paths → Type 0) → Type 0
OfKnown it P = (rs : List Record) (paths : Paths) → IsOf rs paths it → P rs paths

-- the same of the deps log
abbrev pub OfKnownDeps : Records → (List DepsRecord → Paths → Type 0) → Type 0
OfKnownDeps it P = (ds : List DepsRecord) (paths : Paths) → IsOfDeps ds paths it → P ds paths

-- what was found of a path is what the build log has in force for it
abbrev pub IsMade : Option (Bor Done) → List Record → Paths → ℕ → Type 0
IsMade found rs paths p = made_in found ≡ in_force rs (text_at paths p)

-- what was found of it is what the deps log has in force for it
abbrev pub IsTold : Records → Option (Bor Deps) → List DepsRecord → Paths → ℕ → Type 0
IsTold it found ds ps p = told_found it.logs.deps_log.log found ≡ deps_in_force ds (text_at ps p)

-- So they are of both logs, for the paths that the graph had when they were looked up: those in front, among which are all outputs.
-- It may have got more since then.
pub record AreKnown (graph : Graph) (rs : List Record) (ds : List DepsRecord) (records : Records) : Type 0 where
  pub paths : List (List ℕ)
  pub more : List (List ℕ)
  pub grown : graph.manifest.paths ≡ paths ++ more
  pub outputs : (e p : ℕ) → has_number ((links_of graph).outputs e) p ≡ true → p < length paths
  pub known : IsOf rs paths records
  pub told : IsOfDeps ds paths records

-- ---- what goes on as the graph grows and shrinks

-- of some records of both logs
abbrev pub SomeOfBoth : OfLogs → Type 0
SomeOfBoth P = (rs : List Record) × (ds : List DepsRecord) × P rs ds

-- whatever both logs told
abbrev pub OfBoth : OfLogs → Type 0
OfBoth P = (rs : List Record) (ds : List DepsRecord) → P rs ds

-- they are known for the paths that the graph had when they were looked up
abbrev pub Knows : Graph → Records → OfLogs
Knows graph it = λ rs ds. AreKnown graph rs ds it

-- the graph has these paths behind those that it had before
abbrev pub HasMore : Graph → Paths → Graph → Type 0
HasMore was more now = paths_in now ≡ paths_in was ++ more

-- where it has, and the records were known then
abbrev pub KnewThen : Graph → Paths → Graph → Records → OfLogs → OfLogs
KnewThen was more now old P = λ rs ds. HasMore was more now → Knows was old rs ds → P rs ds

-- whatever was known before the graph grew
abbrev pub OfGrown : Graph → Records → OfLogs → Type 0
OfGrown now old P = (was : Graph) (more : Paths) → OfBoth (KnewThen was more now old P)

-- of whatever is known for these paths
abbrev pub OfAll : Paths → Records → OfLogs → Type 0
OfAll paths it P = OfBoth (λ rs ds. IsOf rs paths it → IsOfDeps ds paths it → P rs ds)

-- what was known for more paths than the graph has is known for those
abbrev pub AreStillKnown : Graph → Records → Records → Type 0
AreStillKnown graph old new = (more : Paths) → OfAll (paths_in graph ++ more) old (Knows graph new)
