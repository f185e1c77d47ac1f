-- What others may do between two builds, and the beginning of the second one.
use Rattle.std.specs.Prelude.{◌≡◌, ◌⊎◌, ℕ, ◌≤◌, true, false, List, [], ◌++◌, map, Option, Some, None}
use Rattle.model.specs.declared.event.Moment.{Moment}
use Rattle.model.specs.declared.event.Writer.TheVariants.{Someone}
use Rattle.model.specs.declared.graph.Edge.{Edge}
use Rattle.model.specs.World.{World, File, IsIdle, content_of, file_at, next_stamp, view_of}
use Rattle.model.specs.Calls.{OthersWrote}
use Rattle.model.specs.Graph.{has}
use Rattle.model.specs.Outcome.{Behaviour}
use Rattle.model.specs.Records.{LogFormat, Made, OwnFiles, in_force, store_in}
use Rattle.model.specs.Faithful.{IsFaithfulStore}
use Rattle.model.specs.History.{IsHeadline, KeepsPremises}
use Rattle.model.specs.SingleBuild.{Asked, Answer, SingleBuild, IsCleanlyBuilt, IsSuccess}
use Rattle.seen_law.specs.Retold.{Telling, told_file, wrote_as, retold, BeginsSo}

-- what counts of the path where this is the real history
abbrev pub counted_at : Telling → List Moment → List ℕ → Option File
counted_at t real p = told_file t.counts None p (file_at real p)

-- what others did between two builds, as it is told: a write at each of these paths, of what counts there now
abbrev pub edits : Telling → (told real : List Moment) → List (List ℕ) → List Moment
edits t told real paths = map (λ p. wrote_as Someone p (counted_at t real p) (next_stamp told)) paths

-- the history that is told at the beginning of the second build
abbrev pub told_next : Telling → (told real : List Moment) → List (List ℕ) → List Moment
told_next t told real paths = told ++ edits t told real paths

-- the record in force for an output in this history
abbrev pub recorded_at : LogFormat → OwnFiles → List Moment → List ℕ → Option Made
recorded_at format own history o = in_force (store_in format own (view_of history)).records o

-- no command runs
abbrev pub no_command : ℕ → Type 0
no_command job = ⊥

-- The first build ended, and this was told of it. Then others wrote what they liked, and `real` is what stands there when the second build
-- begins: the logs hold what they held; elsewhere than at these paths all counts as it did; what counts is the file that was told, or it counts as written
-- later than each start; an output that has a record holds what it held, or counts as absent.
pub record CountRightly (format : LogFormat) (own : OwnFiles) (t : Telling) (told real : List Moment) (paths : List (List ℕ)) : Type 0 where
  pub build_log : content_of (counted_at t real own.build_log) ≡ view_of told own.build_log
  pub deps_log : content_of (counted_at t real own.deps_log) ≡ view_of told own.deps_log
  pub elsewhere : (p : List ℕ) → has paths p ≡ false → file_at told p ≡ counted_at t real p
  pub files : (p : List ℕ) (file : File) → counted_at t real p ≡ Some file → (file_at told p ≡ Some file) ⊎ (next_stamp told ≤ file.stamp)
  pub outputs : (o : List ℕ) (made : Made) → recorded_at format own told o ≡ Some made → (file : File) → counted_at t real o ≡ Some file → view_of told o ≡ Some file.content

-- Then the second build begins with what counts, others alone wrote between, as it is told, and the records that were faithful are so still.
abbrev pub NextBegins : Type 0
NextBegins =
    (B : Behaviour) (format : LogFormat) (own : OwnFiles) (edges others : List Edge) (t : Telling) (last entry : World) (told : List Moment) (paths : List (List ℕ))
    → last.history ≡ told → IsIdle entry.events → CountRightly format own t told entry.history paths → IsFaithfulStore B format own edges last
    → BeginsSo t entry.history (told_next t told entry.history paths)
    × OthersWrote no_command told (told_next t told entry.history paths)
    × IsFaithfulStore B format own others (retold t entry.history (told_next t told entry.history paths) [] entry)

-- A build that was told its files so, and is as the headline says of what it was told: where it succeeds, and its premises hold of what it was
-- told, it leaves of quiet edges what the clean build gives of the files that are told; and these are there, and hold what is told.
abbrev pub NextIsClean : Type 0
NextIsClean =
    (B : Behaviour) (format : LogFormat) (own : OwnFiles) (edges : List Edge) (t : Telling) (last entry exit : World) (told more : List Moment) (paths : List (List ℕ))
    → last.history ≡ told → IsIdle entry.events → CountRightly format own t told entry.history paths → IsFaithfulStore B format own edges last
    → exit.history ≡ entry.history ++ more
    → (asked : Asked) (answer : Answer)
    → (build : SingleBuild true B format own asked (retold t entry.history (told_next t told entry.history paths) [] entry)
    (retold t entry.history (told_next t told entry.history paths) more exit) answer)
    → IsHeadline true B format own asked (retold t entry.history (told_next t told entry.history paths) [] entry)
    (retold t entry.history (told_next t told entry.history paths) more exit) answer build
    → (premises : KeepsPremises true B format own asked (retold t entry.history (told_next t told entry.history paths) [] entry)
    (retold t entry.history (told_next t told entry.history paths) more exit) answer build)
    → IsSuccess answer
    → IsCleanlyBuilt B premises.files.quiet asked build.store (view_of (retold t entry.history (told_next t told entry.history paths) more exit).history)
    × ((p content : List ℕ) → view_of (retold t entry.history (told_next t told entry.history paths) more exit).history p ≡ Some content → view_of exit.history p ≡ Some content)
