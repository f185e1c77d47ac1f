-- Recorded inputs that an edge makes which is not above: a build could make them later than what reads them.
use Rattle.std.specs.Prelude.{◌≡◌, ◌≢◌, ◌⊎◌, ◌↔◌, ℕ, Bool, true, false, List, ◌++◌, ◌∷◌, [], IsSome, Some, get_or, slice_get}
use Rattle.model.specs.declared.record.DepsRecord.{DepsRecord}
use Rattle.model.specs.Graph.{has}
use Rattle.model.specs.Records.{deps_in_force, paths_in}
use Rattle.graph.specs.Links.{links_of}
use Rattle.graph.specs.declared.graph.Graph.{Graph}
use Rattle.log_text.specs.Kept.{if_some, texts_at}
use Rattle.paths.specs.Told.{text_at}
use Rattle.records.specs.Known.{Knows}
use Rattle.records.specs.declared.records.Records.{Records}
use Rattle.model.specs.declared.record.Record.{Record}
use Rattle.tools.specs.declared.declared.Logged.{Logged}
use Rattle.tools.specs.declared.missing.MissingDep.{MissingDep}
use Rattle.tools.specs.Above.{IsNamedAbove, IsNeededFor}

-- An input that the record in force of the output names, and that this edge makes, which is not needed for the output. What no edge makes
-- is no output, whatever a log tells of it.
pub record IsMissing (graph : Graph) (records : List DepsRecord) (file : List ℕ) (dep : MissingDep) : Type 0 where
  pub output : IsSome ((links_of graph).maker dep.output)
  pub told : has (paths_in (deps_in_force records (text_at graph.manifest.paths dep.output))) (text_at graph.manifest.paths dep.input) ≡ true
  pub made : (links_of graph).maker dep.input ≡ Some dep.maker
  pub other : text_at graph.manifest.paths dep.input ≢ file
  pub apart : IsNeededFor (links_of graph) (dep.output ∷ []) dep.maker → ⊥

abbrev pub IsOneOf : MissingDep → List MissingDep → Type 0
IsOneOf dep found = (before after : List MissingDep) × (found ≡ before ++ dep ∷ after)

-- just the missing ones of the outputs that the paths are, or that edges above them name
pub record AreMissing (graph : Graph) (records : List DepsRecord) (file : List ℕ) (paths : List ℕ) (found : List MissingDep) : Type 0 where
  pub sound : (dep : MissingDep) → IsOneOf dep found → IsMissing graph records file dep × IsNamedAbove graph paths dep.output
  pub whole : (dep : MissingDep) → IsMissing graph records file dep → IsNamedAbove graph paths dep.output → IsOneOf dep found

-- the same of whatever the logs tell
abbrev pub Misses : Graph → Records → (file : List ℕ) → (paths : List ℕ) → List MissingDep → Type 0
Misses graph records file paths found = (rs : List Record) (ds : List DepsRecord) → Knows graph records rs ds → AreMissing graph ds file paths found

-- ---- on the way

-- an input among these recorded paths that this edge makes, and that is not the file
pub record IsMadeOf (graph : Graph) (texts : List (List ℕ)) (file : List ℕ) (dep : MissingDep) : Type 0 where
  pub told : has texts (text_at graph.manifest.paths dep.input) ≡ true
  pub made : (links_of graph).maker dep.input ≡ Some dep.maker
  pub other : text_at graph.manifest.paths dep.input ≢ file

-- one of this output
abbrev pub IsMadeFor : Graph → ℕ → List (List ℕ) → List ℕ → MissingDep → Type 0
IsMadeFor graph output texts file dep = (dep.output ≡ output) × IsMadeOf graph texts file dep

-- one whose maker is not above the output
abbrev pub IsApart : Graph → ℕ → List (List ℕ) → List ℕ → MissingDep → Type 0
IsApart graph output texts file dep = (dep.output ≡ output) × IsMadeOf graph texts file dep × (IsNeededFor (links_of graph) (output ∷ []) dep.maker → ⊥)

-- one of these, whose maker has no mark
abbrev pub IsUnmarked : List Bool → List MissingDep → MissingDep → Type 0
IsUnmarked marks made dep = IsOneOf dep made × (get_or marks dep.maker false ≡ false)

-- the marks are those of the edges that are needed for the output
abbrev pub AreNeeded : Graph → ℕ → List Bool → Type 0
AreNeeded graph output marks = (e : ℕ) → get_or marks e false ≡ true ↔ IsNeededFor (links_of graph) (output ∷ []) e

-- just these were added
abbrev pub AddsDeps : (old new : List MissingDep) → (MissingDep → Type 0) → Type 0
AddsDeps old new added = (dep : MissingDep) → IsOneOf dep new ↔ (IsOneOf dep old ⊎ added dep)

-- the missing ones of an output were added, whatever the logs tell
abbrev pub AddsMissing : Graph → Records → (file : List ℕ) → ℕ → (old new : List MissingDep) → Type 0
AddsMissing graph records file output old new = (rs : List Record) (ds : List DepsRecord) → Knows graph records rs ds → AddsDeps old new (λ dep. (dep.output ≡ output) × IsMissing graph ds file dep)

-- ---- by what build files declare, and what logs tell of it

-- the texts that the deps log has under these numbers
abbrev pub told_texts : Logged → List ℕ → List (List ℕ)
told_texts logged numbers = texts_at logged.records.now.logs.deps_log.log.outputs numbers

abbrev pub told_text : Logged → ℕ → List (List ℕ)
told_text logged number = if_some (slice_get logged.records.now.logs.deps_log.log.outputs number)

-- just the missing ones
abbrev pub MissesIn : Logged → (file : List ℕ) → (paths : List ℕ) → List MissingDep → Type 0
MissesIn logged file paths found = Misses logged.declared.now.graph logged.records.now file paths found

-- those of an output were added
abbrev pub AddsMissingOf : Logged → (file : List ℕ) → ℕ → (old new : List MissingDep) → Type 0
AddsMissingOf logged file output old new = AddsMissing logged.declared.now.graph logged.records.now file output old new

-- those of these texts that an edge makes
abbrev pub AddsMade : Logged → (file : List ℕ) → ℕ → (texts : List (List ℕ)) → (old new : List MissingDep) → Type 0
AddsMade logged file output texts old new = AddsDeps old new (IsMadeFor logged.declared.now.graph output texts file)

-- and whose maker is not above the output
abbrev pub AddsApart : Logged → (file : List ℕ) → ℕ → (texts : List (List ℕ)) → (old new : List MissingDep) → Type 0
AddsApart logged file output texts old new = AddsDeps old new (IsApart logged.declared.now.graph output texts file)
