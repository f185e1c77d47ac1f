-- What `-t cleandead` removes, and what it keeps.
use Rattle.std.specs.Prelude.{◌≡◌, ℕ, true, false, List, [], ◌↔◌, IsSome, Some, slice_get}
use Rattle.model.specs.declared.record.Record.{Record}
use Rattle.model.specs.declared.record.DepsRecord.{DepsRecord}
use Rattle.model.specs.Graph.{has}
use Rattle.model.specs.Records.{in_force}
use Rattle.paths.specs.Told.{IsUnnamed}
use Rattle.paths.specs.declared.manifest.Manifest.{Manifest}
use Rattle.graph.specs.declared.graph.Graph.{Graph}
use Rattle.log_text.specs.BuildLog.{Keeps as KeepsMade}
use Rattle.log_text.specs.DepsLog.{Keeps}
use Rattle.log_text.specs.Keeping.{OfKept}
use Rattle.log_text.specs.Kept.{texts_at}
use Rattle.records.specs.Known.{Knows}
use Rattle.records.specs.declared.records.Records.{Records}
use Rattle.tools.specs.declared.dead.Dead.{Dead}
use Rattle.tools.specs.declared.declared.Declared.{Declared}
use Rattle.tools.specs.Clean.{AddsJust}

-- a build made it, and no line names it any more
pub record IsLeft (manifest : Manifest) (records : List Record) (text : List ℕ) : Type 0 where
  pub made : IsSome (in_force records text)
  pub unnamed : IsUnnamed manifest text

-- the deps record with this number lists it as an input
abbrev pub IsListedAt : List DepsRecord → ℕ → List ℕ → Type 0
IsListedAt records k text = (told : DepsRecord) × (slice_get records k ≡ Some told) × (has told.paths text ≡ true)

-- a deps record lists it as an input
abbrev pub IsListed : List DepsRecord → List ℕ → Type 0
IsListed records text = (k : ℕ) × (told : DepsRecord) × (slice_get records k ≡ Some told) × (has told.paths text ≡ true)

-- what is listed is what deps records list, whatever they are
abbrev pub ListsAll : Records → List (List ℕ) → Type 0
ListsAll records listed = (ds : List DepsRecord) (text : List ℕ) → Keeps ds records.logs.deps_log.log → has listed text ≡ true ↔ IsListed ds text

-- just what the deps record with this number lists was added, whatever it is
abbrev pub AddsRecord : Records → ℕ → (old new : List (List ℕ)) → Type 0
AddsRecord records number old new = OfKept Keeps records.logs.deps_log.log (λ all. AddsJust old new (IsListedAt all number))

-- the texts with these numbers in the deps log were added
abbrev pub AddsListed : Records → List ℕ → (old new : List (List ℕ)) → Type 0
AddsListed records numbers old new = AddsJust old new (λ text. has (texts_at records.logs.deps_log.log.outputs numbers) text ≡ true)

abbrev pub AddsNumber : Records → ℕ → (old new : List (List ℕ)) → Type 0
AddsNumber records number old new = AddsJust old new (λ text. Some text ≡ slice_get records.logs.deps_log.log.outputs number)

-- of the texts that were made, those that no line names were added: to the dead ones, or, where they are listed, to those that are kept
pub record AddsLeft (manifest : Manifest) (listed : List (List ℕ)) (made : List ℕ → Type 0) (old new : Dead) : Type 0 where
  pub dead : AddsJust old.dead new.dead (λ text. made text × IsUnnamed manifest text × (has listed text ≡ false))
  pub kept : AddsJust old.kept new.kept (λ text. made text × IsUnnamed manifest text × (has listed text ≡ true))

-- of these texts
abbrev pub AddsLeftOf : Declared → (listed texts : List (List ℕ)) → Dead → Dead → Type 0
AddsLeftOf declared listed texts old new = AddsLeft declared.graph.manifest listed (λ text. has texts text ≡ true) old new

-- of this one
abbrev pub AddsLeftOne : Declared → (listed : List (List ℕ)) → List ℕ → Dead → Dead → Type 0
AddsLeftOne declared listed one old new = AddsLeft declared.graph.manifest listed (λ text. text ≡ one) old new

-- the same of all texts for which a record of the build log is in force, whatever it tells: nothing was there before
abbrev pub BuriesMade : Manifest → Records → (listed : List (List ℕ)) → Dead → Type 0
BuriesMade manifest records listed found = (rs : List Record) → KeepsMade rs records.logs.build_log.log → AddsLeft manifest listed (λ text. IsSome (in_force rs text)) (record { dead = []; kept = [] }) found

-- the text was added to the dead ones, or, where it is listed, to those that are kept
pub record AddsEither (listed : List (List ℕ)) (text : List ℕ) (old new : Dead) : Type 0 where
  pub dead : AddsJust old.dead new.dead (λ added. (added ≡ text) × (has listed text ≡ false))
  pub kept : AddsJust old.kept new.kept (λ added. (added ≡ text) × (has listed text ≡ true))

-- what is left is removed where no deps record lists it, and else kept
pub record AreBuried (manifest : Manifest) (records : List Record) (deps : List DepsRecord) (gone stays : List (List ℕ)) : Type 0 where
  pub dead : (text : List ℕ) → has gone text ≡ true ↔ (IsLeft manifest records text × (IsListed deps text → ⊥))
  pub kept : (text : List ℕ) → has stays text ≡ true ↔ (IsLeft manifest records text × IsListed deps text)

-- the same of whatever the logs tell
abbrev pub Buries : Graph → Records → (dead kept : List (List ℕ)) → Type 0
Buries graph records dead kept = (rs : List Record) (ds : List DepsRecord) → Knows graph records rs ds → AreBuried graph.manifest rs ds dead kept
