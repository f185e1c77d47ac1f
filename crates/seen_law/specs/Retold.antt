-- A history as it is told to a build by what counts: the real one, moment by moment, under other stamps. All is this project's own.
use Rattle.std.specs.Prelude.{◌≡◌, ℕ, suc, nat_lt, Bool, true, false, if◌then◌else◌, List, [], ◌∷◌, ◌++◌, Option, Some, None}
use Rattle.model.specs.declared.event.Event.TheVariants.{Start, Finish}
use Rattle.model.specs.declared.event.Moment.{Moment}
use Rattle.model.specs.declared.event.Moment.TheVariants.{Wrote, Happened}
use Rattle.model.specs.declared.event.Writer.{Writer}
use Rattle.model.specs.declared.event.Writer.TheVariants.{Command, Someone}
use Rattle.model.specs.World.{World, File, written, file_from, file_at, content_of}
use Rattle.model.specs.Graph.{has}

-- how a file counts that is found at a path when a build begins: under a stamp, or not at all
abbrev pub Counting : Type 0
Counting = List ℕ → File → Option ℕ

-- How a build is told its files: what counts at its beginning, what the command of each job makes, and which files are kept from it, in
-- which the site notes what it saw.
pub record Telling : Type 0 where
  pub counts : Counting
  pub makes : ℕ → List (List ℕ)
  pub hidden : List ℕ → Bool

-- ---- one file

-- What did not count when its command was started counts from then on as what the command has: under its own stamp where that is later
-- than the start, and else as written right behind the start.
abbrev pub late : (start stamp : ℕ) → ℕ
late start stamp = if nat_lt start stamp then stamp else suc start

-- the stamp of a file that counts so, where its command was started under this stamp since the build began, or was not
abbrev pub stamp_told : (counts started : Option ℕ) → (stamp : ℕ) → Option ℕ
stamp_told (Some counts) started stamp = Some counts
stamp_told None None stamp = None
stamp_told None (Some start) stamp = Some (late start stamp)

abbrev pub under : Option ℕ → List ℕ → Option File
under None content = None
under (Some stamp) content = Some (record { content = content; stamp = stamp })

-- the file as it is told
abbrev pub told_file : Counting → (started : Option ℕ) → List ℕ → Option File → Option File
told_file counts started p None = None
told_file counts started p (Some file) = under (stamp_told (counts p file) started file.stamp) file.content

-- ---- one moment

-- under which stamp the command of each path was started since the build began
abbrev pub Started : Type 0
Started = List ℕ → Option ℕ

abbrev pub none_started : Started
none_started p = None

-- a command was started that makes the path, or does not: its first start counts
abbrev pub begun : Option ℕ → (makes : Bool) → ℕ → Option ℕ
begun (Some start) makes stamp = Some start
begun None true stamp = Some stamp
begun None false stamp = None

abbrev pub start_these : Started → List (List ℕ) → ℕ → Started
start_these started paths stamp = λ p. begun (started p) (has paths p) stamp

-- who is told to have written: somebody else, what is kept from the build
abbrev pub teller : (hidden : Bool) → Writer → Writer
teller true by = Someone
teller false by = by

abbrev pub stamp_or : ℕ → Option File → ℕ
stamp_or stamp None = stamp
stamp_or stamp (Some file) = file.stamp

abbrev pub wrote_as : Writer → List ℕ → Option File → ℕ → Moment
wrote_as by p file stamp = Wrote by p (content_of file) (stamp_or stamp file)

abbrev pub write_told : Telling → Started → Writer → List ℕ → Option (List ℕ) → ℕ → Moment
write_told t started by p content stamp = wrote_as (teller (t.hidden p) by) p (told_file t.counts (started p) p (written content stamp)) stamp

-- The command of this job has what is there now and was told as absent: it is told as written by it. `now` is how the file is told
-- before and behind the start.
abbrev pub takes : ℕ → List ℕ → (before now : Option File) → List Moment
takes job p None (Some file) = Wrote (Command job) p (Some file.content) file.stamp ∷ []
takes job p None None = []
takes job p (Some was) now = []

abbrev pub takes_all : Counting → (before now : Started) → ℕ → (List ℕ → Option File) → List (List ℕ) → List Moment
takes_all counts before now job files [] = []
takes_all counts before now job files (o ∷ os) =
    takes job o (told_file counts (before o) o (files o)) (told_file counts (now o) o (files o)) ++ takes_all counts before now job files os

-- ---- a history

-- what each path holds behind these moments
abbrev pub files_from : (List ℕ → Option File) → List Moment → List ℕ → Option File
files_from files ms = λ p. file_from p (files p) ms

abbrev pub started_after : Telling → Started → List Moment → Started
started_after t started [] = started
started_after t started (Wrote by p content stamp ∷ ms) = started_after t started ms
started_after t started (Happened (Start job act stamp) ∷ ms) = started_after t (start_these started (t.makes job) stamp) ms
started_after t started (Happened (Finish job ok) ∷ ms) = started_after t started ms

-- these moments as they are told, where these are the real files before them
abbrev pub retell : Telling → Started → (List ℕ → Option File) → List Moment → List Moment
retell t started files [] = []
retell t started files (Wrote by p content stamp ∷ ms) =
    write_told t started by p content stamp ∷ retell t started (files_from files (Wrote by p content stamp ∷ [])) ms
retell t started files (Happened (Start job act stamp) ∷ ms) =
    Happened (Start job act stamp)
    ∷ (takes_all t.counts started (start_these started (t.makes job) stamp) job files (t.makes job) ++ retell t (start_these started (t.makes job) stamp) files ms)
retell t started files (Happened (Finish job ok) ∷ ms) = Happened (Finish job ok) ∷ retell t started files ms

-- a site of this history
abbrev pub with_history : List Moment → World → World
with_history history world = record {
  history = history;
  events = world.events;
  earlier = world.earlier;
  ticked = world.ticked;
  failures = world.failures;
  failures_at_start = world.failures_at_start;
  wait_refused = world.wait_refused;
  stopped = world.stopped;
}

-- The site as it is told in a build that began with the real history `first`, which was told as `before`, and since which there are
-- these moments.
abbrev pub retold : Telling → (first before more : List Moment) → World → World
retold t first before more world = with_history (before ++ retell t none_started (file_at first) more) world

-- what was told at the beginning of the build is what counts
abbrev pub BeginsSo : Telling → (first before : List Moment) → Type 0
BeginsSo t first before = (p : List ℕ) → file_at before p ≡ told_file t.counts None p (file_at first p)
