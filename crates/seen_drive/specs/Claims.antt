-- What is claimed of each build among moves that were carried out. All is this project's own.
use Rattle.std.specs.Prelude.{◌⊎◌, ℕ, true, List, [], ◌∷◌, ◌++◌}
use Rattle.std.proofs.Common.{inl, inr, refl}
use Rattle.model.specs.declared.graph.BuildGraph.{BuildGraph}
use Rattle.model.specs.declared.graph.Edge.{Edge}
use Rattle.model.specs.Faithful.{IsFaithfulStore}
use Rattle.model.specs.Records.{IsOwnIn}
use Rattle.model.specs.World.{World}
use Rattle.paths.specs.Told.{graph_of}
use Rattle.work.specs.declared.report.Options.{Options}
use Rattle.work.specs.declared.report.Report.{Report}
use Rattle.builder.specs.declared.asked.Asked.{Asked as Request}
use Rattle.builder.specs.declared.reading.Reading.{Reading}
use Rattle.seen_builds.specs.Claims.{IsAsClaimed, KeepsRecords}
use Rattle.seen_builds.specs.Fresh.{BeginsFresh}
use Rattle.seen_builds.specs.From.{BeginsKnowing, IsSeenBuild}
use Rattle.seen_builds.specs.Runs.{Before, Conventions, HasLateNumber, OthersCount, Run, Told, WasRun, begun_in, ended_by, run_of}
use Rattle.seen_drive.specs.Between.{OthersAreSeen}
use Rattle.seen_drive.specs.Visits.{Built, Edited, FollowsFrom, IsNextBuild, IsReadBuild, Restarted, Visit}

-- ---- the builds that began

-- one that was run
pub record Ran : Type 0 where
  pub run : Run
  pub was : WasRun run

-- it is the one that began so
abbrev pub ran_so : (graph : BuildGraph) (request : Request) (old new : World) (report : Report) → BeginsKnowing true graph request old new report → Ran
ran_so graph request old new report begins = record {
  run = run_of graph request old new report begins;
  was = record {
    idle = begins.idle;
    running = begins.running;
    own = begins.own;
    makes = begins.makes;
    base = begins.base;
    enters = begins.enters refl;
    built = begins.built;
  };
}

-- those of one build: none where it did not begin
abbrev pub ran_seen : (graph : BuildGraph) (request : Request) (old new : World) (report : Report) → IsSeenBuild true graph request old new report → List Ran
ran_seen graph request old new report (inl not_begun) = []
ran_seen graph request old new report (inr begins) = ran_so graph request old new report begins ∷ []

abbrev pub ran_read : (reading : Reading) (old new : World) (report : Report) → IsReadBuild true reading old new report → List Ran
ran_read reading old new report (inl no_graph) = []
ran_read reading old new report (inr seen) = ran_seen (graph_of reading.manifest) reading.asked old new report seen

abbrev pub ran_next : (options : Options) (words : List (List ℕ)) (old new : World) (report : Report) → IsNextBuild true options words old new report → List Ran
ran_next options words old new report (inl unread) = []
ran_next options words old new report (inr built) = ran_read built.reading built.between new report built.built

-- those of the visits, in order
abbrev pub ran_in : {options : Options} → List (Visit true options) → List Ran
ran_in [] = []
ran_in (Edited path content old new edit ∷ vs) = ran_in vs
ran_in {options} (Built words old new report build ∷ vs) = ran_next options words old new report build ++ ran_in vs
ran_in (Restarted old new restart ∷ vs) = ran_in vs

-- ---- what is supposed

-- the logs of each lie where the program's own files do
abbrev pub AllFit : Conventions → List Ran → Type 0
AllFit here [] = Unit {0}
AllFit here (ran ∷ rest) = IsOwnIn here.own ran.run.request.folder × AllFit here rest

-- OF A BUILD BEHIND WHAT WAS BEFORE: what others did since counts, and the number of the build is later than the records; and commands and others
-- left alone in it what its records suppose.
pub record IsKept (here : Conventions) (before : Before) (ran : Ran) (fits : IsOwnIn here.own ran.run.request.folder) : Type 0 where
  pub others : OthersCount here before ran.run
  pub number : HasLateNumber here ran.run
  pub keeps : KeepsRecords here ran.run ran.was fits

abbrev pub AreKept : (here : Conventions) → Before → (rans : List Ran) → AllFit here rans → Type 0
AreKept here before [] fits = Unit {0}
AreKept here before (ran ∷ rest) fits = IsKept here before ran fits.0 × AreKept here (ended_by ran.run) rest fits.1

-- OF A FIRST BUILD where nothing was built yet: no log is there. Of what stands there, under which stamps, and of the notes, nothing is supposed.
pub record IsKeptFirst (here : Conventions) (ran : Ran) (fits : IsOwnIn here.own ran.run.request.folder) : Type 0 where
  pub fresh : BeginsFresh here ran.run
  pub keeps : KeepsRecords here ran.run ran.was fits

abbrev pub AreKeptFirst : (here : Conventions) (rans : List Ran) → AllFit here rans → Type 0
AreKeptFirst here [] fits = Unit {0}
AreKeptFirst here (ran ∷ rest) fits = IsKeptFirst here ran fits.0 × AreKept here (ended_by ran.run) rest fits.1

-- OF ONE BEHIND ANOTHER, write by write; and of the program, that its number is later than the records that it finds.
pub record IsSeenBehind (here : Conventions) (before : Run) (ran : Ran) (fits : IsOwnIn here.own ran.run.request.folder) : Type 0 where
  pub others : OthersAreSeen here.format here.own (begun_in before) before.exit (begun_in ran.run)
  pub number : HasLateNumber here ran.run
  pub keeps : KeepsRecords here ran.run ran.was fits

abbrev pub AreSeenBehind : (here : Conventions) → Run → (rans : List Ran) → AllFit here rans → Type 0
AreSeenBehind here before [] fits = Unit {0}
AreSeenBehind here before (ran ∷ rest) fits = IsSeenBehind here before ran fits.0 × AreSeenBehind here ran.run rest fits.1

abbrev pub AreSeenFirst : (here : Conventions) (rans : List Ran) → AllFit here rans → Type 0
AreSeenFirst here [] fits = Unit {0}
AreSeenFirst here (ran ∷ rest) fits = IsKeptFirst here ran fits.0 × AreSeenBehind here ran.run rest fits.1

-- ---- what is claimed

abbrev pub AreClaimed : (here : Conventions) (rans : List Ran) → AllFit here rans → Type 0
AreClaimed here [] fits = Unit {0}
AreClaimed here (ran ∷ rest) fits = IsAsClaimed here ran.run ran.was fits.0 × AreClaimed here rest fits.1

-- FROM FAITHFUL RECORDS, EACH BUILD AMONG THE MOVES IS AS CLAIMED: however many there are, whatever was edited, failed or stopped between, under
-- whatever stamps.
abbrev pub MovesAreClean : Type 0
MovesAreClean =
    (options : Options) (here : Conventions) (edges : List Edge) (first : World) (visits : List (Visit true options))
    → IsFaithfulStore here.does here.format here.own edges first
    → (fits : AllFit here (ran_in visits)) → AreKept here (Told first.history) (ran_in visits) fits → AreClaimed here (ran_in visits) fits

-- FROM NOTHING THAT WAS BUILT, TOO.
abbrev pub MovesBegin : Type 0
MovesBegin =
    (options : Options) (here : Conventions) (visits : List (Visit true options))
    → (fits : AllFit here (ran_in visits)) → AreKeptFirst here (ran_in visits) fits → AreClaimed here (ran_in visits) fits

-- AND OVER VISITS THAT FOLLOW ONE ANOTHER, WRITE BY WRITE.
abbrev pub MovesAreSeen : Type 0
MovesAreSeen =
    (options : Options) (here : Conventions) (first last : World) (visits : List (Visit true options)) → FollowsFrom visits first last
    → (fits : AllFit here (ran_in visits)) → AreSeenFirst here (ran_in visits) fits → AreClaimed here (ran_in visits) fits
