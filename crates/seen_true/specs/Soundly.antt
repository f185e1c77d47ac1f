-- What others may do between two builds, by less than `CountRightly` asks: it asks for what a build that is ended at any call can give. All is
-- this project's own.
use Rattle.std.specs.Prelude.{◌≡◌, ◌⊎◌, ℕ, ◌<◌, ◌≤◌, false, List, [], ◌∷◌, Some}
use Rattle.model.specs.declared.event.Moment.{Moment}
use Rattle.model.specs.declared.event.Moment.TheVariants.{Wrote, Happened}
use Rattle.model.specs.declared.graph.Edge.{Edge}
use Rattle.model.specs.World.{World, File, IsIdle, content_of, file_at, view_of}
use Rattle.model.specs.Calls.{OthersWrote}
use Rattle.model.specs.Graph.{has}
use Rattle.model.specs.Outcome.{Behaviour}
use Rattle.model.specs.Records.{LogFormat, Made, OwnFiles}
use Rattle.model.specs.Faithful.{IsFaithfulStore}
use Rattle.seen_law.specs.Retold.{Telling, retold, BeginsSo}
use Rattle.seen_law.specs.Meanwhile.{counted_at, told_next, recorded_at, no_command, CountRightly}

-- this content was told to be there, under no later stamp
pub record WasTold (told : List Moment) (p : List ℕ) (file : File) : Type 0 where
  pub was : File
  pub there : file_at told p ≡ Some was
  pub holds : was.content ≡ file.content
  pub no_later : was.stamp ≤ file.stamp

-- the stamp is later than the start of each record in force
abbrev pub IsLaterThanRecords : LogFormat → OwnFiles → List Moment → ℕ → Type 0
IsLaterThanRecords format own told stamp = (o : List ℕ) (made : Made) → recorded_at format own told o ≡ Some made → made.start < stamp

-- As `CountRightly`, but what counts may do so under a later stamp than was told, if it holds what was told; and what is new has to be later than
-- the records in force alone. So a command may have been killed behind a write: what it wrote was told under a stamp that nothing notes.
pub record CountSoundly (format : LogFormat) (own : OwnFiles) (t : Telling) (told real : List Moment) (paths : List (List ℕ)) : Type 0 where
  pub build_log : content_of (counted_at t real own.build_log) ≡ view_of told own.build_log
  pub deps_log : content_of (counted_at t real own.deps_log) ≡ view_of told own.deps_log
  pub elsewhere : (p : List ℕ) → has paths p ≡ false → file_at told p ≡ counted_at t real p
  pub files : (p : List ℕ) (file : File) → counted_at t real p ≡ Some file → ∥ WasTold told p file ⊎ IsLaterThanRecords format own told file.stamp ∥₁
  pub outputs : (o : List ℕ) (made : Made) → recorded_at format own told o ≡ Some made → (file : File) → counted_at t real o ≡ Some file → view_of told o ≡ Some file.content

-- the paths that these moments write
abbrev pub written_in : List Moment → List (List ℕ)
written_in [] = []
written_in (Wrote by path content stamp ∷ ms) = path ∷ written_in ms
written_in (Happened event ∷ ms) = written_in ms

-- what counts rightly does so soundly, where records are faithful
abbrev pub RightlyIsSoundly : Type 0
RightlyIsSoundly =
    (B : Behaviour) (format : LogFormat) (own : OwnFiles) (edges : List Edge) (t : Telling) (last : World) (real : List Moment) (paths : List (List ℕ))
    → IsFaithfulStore B format own edges last → CountRightly format own t last.history real paths → CountSoundly format own t last.history real paths

-- Then the next build begins with what counts, others alone wrote between, as it is told, and the records that were faithful are so still.
abbrev pub NextBeginsSoundly : Type 0
NextBeginsSoundly =
    (B : Behaviour) (format : LogFormat) (own : OwnFiles) (edges others : List Edge) (t : Telling) (last entry : World) (told : List Moment) (paths : List (List ℕ))
    → last.history ≡ told → IsIdle entry.events → CountSoundly format own t told entry.history paths → IsFaithfulStore B format own edges last
    → BeginsSo t entry.history (told_next t told entry.history paths)
    × OthersWrote no_command told (told_next t told entry.history paths)
    × IsFaithfulStore B format own others (retold t entry.history (told_next t told entry.history paths) [] entry)
