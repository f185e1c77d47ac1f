-- What a build keeps of a log, and how it hangs together with the file that it read. It is said of any log: by the forms of its
-- records, what is kept of them, and what they have in force.
use Rattle.std.specs.Prelude.{◌≡◌, ◌↔◌, ◌<◌, ◌≤◌, ◌⊎◌, ℕ, Bool, IsTrue, List, [], ◌∷◌, ◌++◌, Option, Some, None, length, slice_get}
use Rattle.std.specs.Option.{option_and_then}
use Rattle.model.specs.World.{World, file_at, content_of}
use Rattle.model.specs.Calls.{Sees}
use Rattle.site.specs.Files.{text_in}
use Rattle.paths.specs.Told.{text_at}
use Rattle.log_text.specs.declared.form.Version.{Version}
use Rattle.log_text.specs.declared.form.Version.TheVariants.{Two}
use Rattle.log_text.specs.declared.tail.Tail.{Tail}
use Rattle.log_text.specs.Form.{Form}
use Rattle.log_text.specs.Kept.{WantsCompaction, joined}
use Rattle.log_text.specs.Keeping.{Keeping}
use Rattle.log_text.specs.Text.{IsRead, IsLogOf, IsEnded, IsTornOf}
use Rattle.log_text.specs.declared.pieces.Pieces.{Pieces}
use Rattle.log_text.specs.Pieces.{ReadsTo}
use Rattle.records.specs.declared.file.State.{State}
use Rattle.records.specs.declared.file.State.TheVariants.{Usable, Stale}

-- the path of a log, what it told when it was read, and what may be done with its file
pub record Held (T : Type 0) : Type 0 where
  pub path : List ℕ
  pub log : T
  pub state : State

-- what a file holds, if it is there
abbrev pub Content : Type 0
Content = Option (List ℕ)

-- how the records of a log are written in either version
abbrev pub Forms : Type 0 → Type 1
Forms R = Version → Form R

-- which records a compaction leaves
abbrev pub Compacts : Type 0 → Type 0
Compacts R = List R → List R

-- what records tell, in order
abbrev pub Tellings : Type 0 → Type 0 → Type 0
Tellings R X = List R → List X

-- what records have in force for a text
abbrev pub InForce : Type 0 → Type 0 → Type 0
InForce R X = List R → List ℕ → Option X

-- paths, by number
abbrev pub Paths : Type 0
Paths = List (List ℕ)

-- the numbers of records by the numbers of paths
abbrev pub Places : Type 0
Places = List (Option ℕ)

-- the file tells these records, however it ends
abbrev pub AreRecordsIn : {R : Type 0} → (Version → Form R) → Option (List ℕ) → List R → Type 0
AreRecordsIn forms content rs = (tail : Tail) × IsRead forms (text_in content) rs tail

-- a line may be appended: the file is a log of version 2 of these records, which wants no compaction
abbrev pub MayBeAppendedTo : {R : Type 0} → (Version → Form R) → (List R → List R) → Option (List ℕ) → List R → Type 0
MayBeAppendedTo forms compaction content rs = IsLogOf (forms Two) (text_in content) rs × (WantsCompaction (length rs) (length (compaction rs)) → ⊥)

-- it is told right whether a line may be appended
abbrev pub IsStateOf : {R : Type 0} → Forms R → Compacts R → Content → List R → State → Type 0
IsStateOf forms compact held rs state = (state ≡ Usable) ↔ MayBeAppendedTo forms compact held rs

-- so it is of some records, which the file tells and which are kept
abbrev pub IsJudged : {R T : Type 0} → Forms R → Keeping R T → Compacts R → Content → T → State → Type 0
IsJudged {R} forms Keeps compact held log state =
    (rs : List R) × AreRecordsIn forms held rs × Keeps rs log × IsStateOf forms compact held rs state

-- of whatever records a text tells that ends so
abbrev pub OfRead : {R : Type 0} → Forms R → List ℕ → Tail → (List R → Type 0) → Type 0
OfRead {R} forms text tail P = (rs : List R) → IsRead forms text rs tail → P rs

-- it is told right whether a line may be appended to a file with this text, which tells what is kept and ends so
abbrev pub IsStateBy : {R T : Type 0} → Forms R → Keeping R T → Compacts R → Tail → T → State → List ℕ → Type 0
IsStateBy forms Keeps compact tail log state text = OfRead forms text tail (λ rs. Keeps rs log → IsStateOf forms compact (Some text) rs state)

-- of each text of which it is told right whether it is empty
abbrev pub OfText : Bool → (List ℕ → Type 0) → Type 0
OfText is_empty P = (text : List ℕ) → (IsTrue is_empty ↔ (text ≡ [])) → P text

-- of whatever a file held whose text was read
abbrev pub OfHeld : {R T : Type 0} → Forms R → Keeping R T → Pieces T → (Content → Type 0) → Type 0
OfHeld forms Keeps pieces P = (held : Content) → ReadsTo forms Keeps (text_in held) pieces → P held

-- this was read of a file that held this, and tells these records
pub record IsReadFrom {R T : Type 0} (forms : Version → Form R) (Keeps : List R → T → Type 0) (compaction : List R → List R) (content : Option (List ℕ)) (rs : List R) (file : Held T) : Type 0 where
  pub records : AreRecordsIn forms content rs
  pub keeps : Keeps rs file.log
  pub state : (file.state ≡ Usable) ↔ MayBeAppendedTo forms compaction content rs

-- it was read so at some moment between these worlds
pub record WasRead {R T : Type 0} (forms : Version → Form R) (Keeps : List R → T → Type 0) (compaction : List R → List R) (tells : Bool) (old new : World) (rs : List R) (file : Held T) : Type 0 where
  pub content : Option (List ℕ)
  pub read : IsReadFrom forms Keeps compaction content rs file
  pub seen : IsTrue tells → Sees (λ history. content_of (file_at history file.path)) content old.history new.history

-- what is said of the reading of a log between two worlds
abbrev pub OfReading : Type 0 → Type 1
OfReading T = World → World → Held T → Type 0

-- of some records it was read so
abbrev pub WasReadSo : {R T : Type 0} → Forms R → Keeping R T → Compacts R → Bool → OfReading T
WasReadSo {R} forms Keeps compact tells old new it = (rs : List R) × WasRead forms Keeps compact tells old new rs it

-- these are, for each of the paths, the numbers of the records in force for it
abbrev pub ArePlaces : {R X : Type 0} → (List R → List X) → (List R → List ℕ → Option X) → List R → List (List ℕ) → List (Option ℕ) → Type 0
ArePlaces told in_force rs paths places = (p : ℕ) → p < length paths → option_and_then (slice_get (told rs)) (joined (slice_get places p)) ≡ in_force rs (text_at paths p)

-- so they are for the paths from one place on up to another
abbrev pub AreMadeFrom : {R X : Type 0} → (List R → List X) → (List R → List ℕ → Option X) → ℕ → ℕ → List R → List (List ℕ) → List (Option ℕ) → Type 0
AreMadeFrom told in_force start stop rs paths places =
    (p : ℕ) → start ≤ p → p < stop → option_and_then (slice_get (told rs)) (joined (slice_get places p)) ≡ in_force rs (text_at paths p)

-- what is said of places for paths
abbrev pub OfPlaces : Type 0 → Type 1
OfPlaces R = List R → Paths → Places → Type 0

-- so they are for the paths behind those that had places before
abbrev pub AreMadeBehind : {R X : Type 0} → Tellings R X → InForce R X → Places → OfPlaces R
AreMadeBehind told in_force old rs ps = AreMadeFrom told in_force (length old) (length ps) rs ps

-- where there were no more places than paths, there still are not
abbrev pub StaysWithin : Paths → Places → Places → Type 0
StaysWithin paths old new = length old ≤ length paths → length new ≤ length paths

-- where there were no more places than paths, each path has one
abbrev pub Fills : Paths → Places → Places → Type 0
Fills paths old new = length old ≤ length paths → length new ≡ length paths

-- of each list of paths in front of these that has no fewer paths than there were places
abbrev pub OfFront : Paths → Places → (Paths → Type 0) → Type 0
OfFront all old P = (ps more : Paths) → all ≡ ps ++ more → length old ≤ length ps → P ps

-- what was so of the places for the paths in front is now so of those for all
abbrev pub GrowsTo : {R T : Type 0} → OfPlaces R → Keeping R T → T → Paths → Places → Places → Type 0
GrowsTo {R} Are Keeps log all old new =
    (rs : List R) → OfFront all old (λ ps. Keeps rs log → Are rs ps old → Are rs all new)

-- more numbers stand behind those that stood there
pub record IsLonger (old new : List (Option ℕ)) : Type 0 where
  pub more : List (Option ℕ)
  pub grows : new ≡ old ++ more

-- of a log nothing changed but what may be done with its file
pub record IsSameLog {T : Type 0} (old new : Held T) : Type 0 where
  pub path : new.path ≡ old.path
  pub log : new.log ≡ old.log

-- ---- while a build runs

-- What the file of the log holds: a log of version 2, to which a line may be appended; or still a text whose records are those
-- that were read.
abbrev pub HoldsStill : {R T : Type 0} → (Version → Form R) → (List R → T → Type 0) → State → T → Option (List ℕ) → Type 0
HoldsStill {R = R} forms Keeps Usable log content = (text : List ℕ) × (rs : List R) × (content ≡ Some text) × IsLogOf (forms Two) text rs
HoldsStill {R = R} forms Keeps Stale log content = (rs : List R) × AreRecordsIn forms content rs × Keeps rs log

-- the text can be read and tells these records: it is whole, or torn
abbrev pub IsToldBy : {R : Type 0} → (Version → Form R) → List ℕ → List R → Type 0
IsToldBy forms text rs = IsEnded (forms Two) text rs ⊎ IsTornOf (forms Two) text rs

-- these records, and one behind them where one is put
abbrev pub behind : {R : Type 0} → List R → Option R → List R
behind rs None = rs
behind rs (Some r) = rs ++ r ∷ []

-- The file told some records. Now it tells these, or others that have the same in force, and the one that was put behind them.
pub record TellsMore {R X : Type 0} (forms : Version → Form R) (in_force : List R → List ℕ → Option X) (added : Option R) (before after : Option (List ℕ)) : Type 0 where
  pub old : List R
  pub was : AreRecordsIn forms before old
  pub new : List R
  pub same : (o : List ℕ) → in_force new o ≡ in_force old o
  pub text : List ℕ
  pub holds : after ≡ Some text
  pub told : IsToldBy forms text (behind new added)

-- the file is as it was, or tells what has the same in force
abbrev pub IsKeptOrWrittenAnew : {R X : Type 0} → (Version → Form R) → (List R → List ℕ → Option X) → Option (List ℕ) → Option (List ℕ) → Type 0
IsKeptOrWrittenAnew forms in_force before after = (after ≡ before) ⊎ TellsMore forms in_force None before after

-- and, perhaps, the record that was to be put behind that
abbrev pub MayTellMore : {R X : Type 0} → (Version → Form R) → (List R → List ℕ → Option X) → R → Option (List ℕ) → Option (List ℕ) → Type 0
MayTellMore forms in_force r before after = IsKeptOrWrittenAnew forms in_force before after ⊎ TellsMore forms in_force (Some r) before after
