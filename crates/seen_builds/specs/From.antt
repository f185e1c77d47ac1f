-- A build that goes by what is known when it begins, on the site as it is told. All is this project's own.
use Rattle.std.specs.Prelude.{◌≡◌, ◌⊎◌, ℕ, max, Bool, false, IsTrue, List, [], ◌∷◌, Option, None, Err}
use Rattle.model.specs.declared.event.Moment.{Moment}
use Rattle.model.specs.declared.event.Moment.TheVariants.{Wrote}
use Rattle.model.specs.declared.event.Writer.TheVariants.{Someone}
use Rattle.model.specs.declared.graph.BuildGraph.{BuildGraph}
use Rattle.model.specs.declared.fault.SiteFault.{SiteFault}
use Rattle.model.specs.World.{World, IsIdle, next_stamp}
use Rattle.model.specs.Calls.{OnlyLooks}
use Rattle.work.specs.declared.report.Report.{Report}
use Rattle.work.specs.declared.report.Report.TheVariants.{Fault}
use Rattle.builder.specs.declared.asked.Asked.{Asked as Request}
use Rattle.builder.specs.Parts.{BuildsAsked}
use Rattle.seen_law.specs.Retold.{Telling}
use Rattle.seen_law.specs.Meanwhile.{told_next}
use Rattle.seen_true.specs.Between.{paths_between}
use Rattle.seen_true.specs.Counting.{telling}
use Rattle.seen_true.specs.Going.{EntersAt, NotesStand}
use Rattle.seen.specs.declared.counts.Counts.{Counts}
use Rattle.seen.specs.declared.notes.Entry.{Entry}
use Rattle.seen.specs.Asking.{Asks}
use Rattle.seen.specs.Begun.{Begun, GoesOn, told_world}
use Rattle.seen.specs.Known.{known_of}
use Rattle.seen.specs.Own.{AreOwnIn}
use Rattle.seen_builds.specs.Makes.{KnowsMakers}

-- how files count by what is known
abbrev pub telling_in : Counts → Telling
telling_in counts = telling (known_of counts)

-- nothing is told before, but that this stamp was given: the number of the build, or what may be given next on this site
abbrev pub told_nothing : Counts → World → List Moment
told_nothing counts world = Wrote Someone [] None (max counts.number (next_stamp world.history)) ∷ []

-- What is told when it begins: at each path where something was written, what counts there.
abbrev pub told_first : Counts → World → List Moment
told_first counts world = told_next (telling_in counts) (told_nothing counts world) world.history (paths_between (told_nothing counts world) world.history)

-- it begins so, where this had happened when it was asked for, before it read the notes
abbrev pub begun_with : Counts → (past : List Moment) → World → Begun
begun_with counts past world = record { knows = known_of counts; asked = past; first = world.history; before = told_first counts world }

-- THE BUILD OVER A SITE, from `old` to `new`, that began so: on a site that tells its files the history went on; of what it was told it was the build
-- that each build is of the site that it is given; and the notes that it left are true, wherever it ended.
pub record IsOver (tells : Bool) (b : Begun) (graph : BuildGraph) (asked : Request) (old new : World) (report : Report) : Type 0 where
  pub goes_on : GoesOn tells b new
  pub builds : BuildsAsked tells graph asked (told_world tells b old) (told_world tells b new) report
  pub noted : NotesStand tells b new

-- It did not begin: the site was only looked at, and this fault is answered, which has its cause.
pub record IsNotBegun (tells : Bool) (old new : World) (report : Report) : Type 0 where
  pub fault : SiteFault
  pub is : report ≡ Fault fault
  pub asks : Asks {T = Entry} tells old new (Err fault)

-- Something was known: which files are the program's own, by the folder of the logs; which edge makes what, by the build file; and what was read of the
-- notes at some moment since it was asked for. The site had only been looked at, ran no command and had not stopped; and the build began by that.
pub record BeginsKnowing (tells : Bool) (graph : BuildGraph) (asked : Request) (old new : World) (report : Report) : Type 0 where
  pub counts : Counts
  pub base : Option (List ℕ)
  pub entry : World
  pub looks : OnlyLooks tells old entry
  pub idle : IsIdle entry.events
  pub running : entry.stopped ≡ false
  pub own : AreOwnIn asked.folder counts.own
  pub makes : KnowsMakers counts.makers graph.edges
  pub enters : IsTrue tells → EntersAt (known_of counts) base old.history entry.history
  pub built : IsOver tells (begun_with counts old.history entry) graph asked entry new report

-- A BUILD THAT READS WHAT WAS NOTED and begins by that, or not at all.
abbrev pub IsSeenBuild : Bool → BuildGraph → Request → World → World → Report → Type 0
IsSeenBuild tells graph asked old new report = IsNotBegun tells old new report ⊎ BeginsKnowing tells graph asked old new report
