-- What is claimed of a site that is retold: each call on the real one is such a call on the one that is told. Statements that this crate
-- proves.
use Rattle.std.specs.Prelude.{◌≡◌, ℕ, ◌<◌, Bool, true, false, List, ◌++◌, Option, Some, None}
use Rattle.model.specs.declared.act.Act.{Act}
use Rattle.model.specs.declared.event.Moment.{Moment}
use Rattle.model.specs.World.{World, File, file_at, content_of, stamp_of, view_of}
use Rattle.model.specs.declared.graph.Edge.{Edge}
use Rattle.model.specs.Graph.{has, edge_at, outputs}
use Rattle.model.specs.Records.{OwnFiles}
use Rattle.model.specs.Premises.{FilesAreKept}
use Rattle.model.specs.Calls.{OnlyLooks, Sees, Ticks, Writes, Appends, Starts, Finishes, IsRestart}
use Rattle.seen_law.specs.Retold.{Telling, Started, none_started, started_after, told_file, late, retell, retold, BeginsSo}

-- The call went from the real site to the new one, and what was told went on as the relation says.
pub record GoesAs (t : Telling) (first before more : List Moment) (real new : World) (does : World → World → Type 0) : Type 0 where
  pub since : List Moment
  pub grows : new.history ≡ first ++ (more ++ since)
  pub so : does (retold t first before more real) (retold t first before (more ++ since) new)

-- A path that the build may write under whatever stamp: it is not hidden, and what stands there always counts. And one of which its own stamp
-- counts.
abbrev pub IsTold : Telling → List ℕ → Type 0
IsTold t p = (t.hidden p ≡ false) × ((file : File) → (stamp : ℕ) × (t.counts p file ≡ Some stamp))

abbrev pub IsPlain : Telling → List ℕ → Type 0
IsPlain t p = (t.hidden p ≡ false) × ((file : File) → t.counts p file ≡ Some file.stamp)

-- under which stamp the command of a path was started
abbrev pub started_so : Telling → List Moment → Started
started_so t more = started_after t none_started more

-- what is told of the path, where this is what stands there
abbrev pub told_then : Telling → List Moment → List ℕ → Option File → Option File
told_then t more p file = told_file t.counts (started_so t more p) p file

-- it only looked, and this was so at some moment
abbrev pub LooksAt : {A : Type 0} → (List Moment → A) → A → World → World → Type 0
LooksAt so answer old new = OnlyLooks true old new × Sees so answer old.history new.history

-- A call of the real site, of a build that began so and went on by `more`.
pub record IsCalled (t : Telling) (first before more : List Moment) (real : World) : Type 0 where
  pub begins : BeginsSo t first before
  pub so_far : real.history ≡ first ++ more

-- calls that only look; and what the site writes for itself, which is told as written by somebody else
abbrev pub LooksAreTold : Type 0
LooksAreTold =
    (t : Telling) (first before more : List Moment) (real new : World) → IsCalled t first before more real
    → (OnlyLooks true real new → GoesAs t first before more real new (OnlyLooks true))
    × ((p : List ℕ) (content : Option (List ℕ)) → t.hidden p ≡ true → Writes true p content real new → GoesAs t first before more real new (OnlyLooks true))
    × ((p bytes : List ℕ) → t.hidden p ≡ true → Appends true p bytes real new → GoesAs t first before more real new (OnlyLooks true))

-- Where the site answers what counts for what stands at the path, that is what is told of it: of stamps, and of contents.
abbrev pub AnswersAreTold : Type 0
AnswersAreTold =
    (t : Telling) (first before more : List Moment) (real new : World) → IsCalled t first before more real → OnlyLooks true real new → (p : List ℕ)
    → ((answer : Option ℕ) → Sees (λ history. stamp_of (told_then t more p (file_at history p))) answer real.history new.history
    → GoesAs t first before more real new (LooksAt (λ history. stamp_of (file_at history p)) answer))
    × ((answer : Option (List ℕ)) → Sees (λ history. content_of (told_then t more p (file_at history p))) answer real.history new.history
    → GoesAs t first before more real new (LooksAt (λ history. content_of (file_at history p)) answer))

-- what the program writes
abbrev pub WritesAreTold : Type 0
WritesAreTold =
    (t : Telling) (first before more : List Moment) (real new : World) → IsCalled t first before more real → (p : List ℕ)
    → ((content : List ℕ) → IsTold t p → Writes true p (Some content) real new → GoesAs t first before more real new (Writes true p (Some content)))
    × (t.hidden p ≡ false → Writes true p None real new → GoesAs t first before more real new (Writes true p None))
    × ((bytes : List ℕ) → IsTold t p → Appends true p bytes real new → GoesAs t first before more real new (Appends true p bytes))
    × ((stamp : ℕ) → IsPlain t p → Ticks true p stamp real new → GoesAs t first before more real new (Ticks true p stamp))

-- starts, finishes, restarts
abbrev pub EventsAreTold : Type 0
EventsAreTold =
    (t : Telling) (first before more : List Moment) (real new : World) → IsCalled t first before more real
    → ((job : ℕ) (act : Act) → Starts true job act real new → GoesAs t first before more real new (Starts true job act))
    × ((job : ℕ) (ok : Bool) → Finishes true job ok real new → GoesAs t first before more real new (Finishes true job ok))
    × (IsRestart true real new → GoesAs t first before more real new (IsRestart true))

-- What is told as a command's own where that is started is later than the start, and so than each start before it.
abbrev pub TakenIsLater : Type 0
TakenIsLater = (start stamp : ℕ) → start < late start stamp

-- Where files are kept in the real history they are in the one that is told: for the same free paths, among which is what is kept from the
-- build; and what a command takes over is its output.
abbrev pub KeptIsTold : Type 0
KeptIsTold =
    (t : Telling) (own : OwnFiles) (edges : List Edge) (first before more : List Moment) (files : FilesAreKept own edges first (first ++ more))
    → ((p : List ℕ) → t.hidden p ≡ true → files.free p ≡ true)
    → ((job : ℕ) (p : List ℕ) → has (t.makes job) p ≡ true → has (outputs (edge_at edges job)) p ≡ true)
    → FilesAreKept own edges before (before ++ retell t none_started (file_at first) more)

-- At each moment what is told of a path is what counts for what stands there; and a file that is told is there and holds what is told.
abbrev pub FilesAreTold : Type 0
FilesAreTold =
    (t : Telling) (first before more : List Moment) (real : World) → IsCalled t first before more real → (p : List ℕ)
    → (file_at (retold t first before more real).history p ≡ told_then t more p (file_at real.history p))
    × ((content : List ℕ) → view_of (retold t first before more real).history p ≡ Some content → view_of real.history p ≡ Some content)
