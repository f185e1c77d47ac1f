-- What is claimed of builds one after another that go by what is known when each begins. All is this project's own.
use Rattle.std.specs.Prelude.{◌≡◌, ℕ, Bool, true, false, List, [], ◌∷◌, Some}
use Rattle.std.proofs.Common.{refl, sym, append-nil}
use Rattle.model.specs.declared.graph.Edge.{Edge}
use Rattle.model.specs.Clean.{clean_build}
use Rattle.model.specs.Faithful.{IsFaithfulStore}
use Rattle.model.specs.Graph.{has, edge_at, outputs, IsCommand}
use Rattle.model.specs.History.{KeepsPremises, KeepsRecordsFaithful}
use Rattle.model.specs.Outcome.{Behaviour}
use Rattle.model.specs.Records.{IsOwnIn, Store}
use Rattle.model.specs.SingleBuild.{Asked, InCone, IsCleanlyBuilt, IsSuccess, StartsOnlyStale, asked_with}
use Rattle.model.specs.World.{View, World}
use Rattle.theory.specs.Seen.{Looked}
use Rattle.builder.specs.Build.{Builds, asked_of}
use Rattle.seen_builds.specs.Runs.{Before, Conventions, HasLateNumber, OthersCount, Run, Told, WasRun, ended_by, entry_in, exit_in, files_there, files_told, is_made_in}

-- where nothing was done there was only looked
pub looked_here : (world : World) → world.stopped ≡ false → Looked true world world
looked_here world running = record {
  looks = record { events = refl; ticked = refl; at_start = refl; history = λ is. record { more = []; grows = sym (append-nil world.history); all = tt } };
  unrefused = record { failures = refl; began = running; goes_on = running; earlier = refl };
}

-- Each output of these commands in the cone that the clean build of these files makes is there, and holds what that gives. (`IsCleanlyBuilt` says of
-- absence, too.)
abbrev pub HoldsClean : Behaviour → (ℕ → Bool) → Asked → Store → View → Type 0
HoldsClean B quiet asked store files =
    (i : ℕ) (o content : List ℕ) → quiet i ≡ true → InCone asked store i → IsCommand asked.graph.edges i → has (outputs (edge_at asked.graph.edges i)) o ≡ true
    → clean_build B asked.graph.edges files o ≡ Some content → files o ≡ Some content

-- ---- of one build, whose logs lie where the program's own files do

-- what was asked for was built, with these edges at the end, on the site as it was told
abbrev pub BuildsRun : Conventions → Run → List Edge → Type 0
BuildsRun here run grown =
    Builds true here.does here.format here.own run.graph run.request.folder run.request.limits run.request.given.now run.request.targets grown
    (entry_in run) (exit_in run) run.report

module _ (here : Conventions) (run : Run) (was : WasRun run) (fits : IsOwnIn here.own run.request.folder) where
  -- the edges at the end
  abbrev pub grown_in : List Edge
  grown_in = was.built.builds.0

  -- what was asked for, over these
  abbrev pub asked_in : Asked
  asked_in = asked_with (asked_of run.graph run.request.folder run.request.limits run.request.targets) grown_in

  -- the build, as it was told its site
  abbrev pub build_in : BuildsRun here run grown_in
  build_in =
      was.built.builds.1 here.does here.format here.own (entry_in run) here.depfiles here.dyndeps here.logs fits was.idle
      (looked_here (entry_in run) was.running)

  -- it kept what its records suppose
  abbrev pub KeepsRecords : Type 0
  KeepsRecords = KeepsRecordsFaithful true here.does here.format here.own asked_in (entry_in run) (exit_in run) build_in.answer build_in.build

  -- it kept all that the headline supposes
  abbrev pub KeepsAll : Type 0
  KeepsAll = KeepsPremises true here.does here.format here.own asked_in (entry_in run) (exit_in run) build_in.answer build_in.build

  -- of what others leave alone it started only commands out of date
  abbrev pub StartsStale : KeepsAll → Type 0
  StartsStale keeps =
      StartsOnlyStale keeps.files.kept.free grown_in build_in.build.store build_in.build.steps (entry_in run).history (exit_in run).history

  -- a success leaves, of quiet edges, what the clean build gives of the files that it was told
  abbrev pub IsToldClean : KeepsAll → Type 0
  IsToldClean keeps = IsSuccess build_in.answer → IsCleanlyBuilt here.does keeps.files.quiet asked_in build_in.build.store (files_told run)

  -- and of those that are there
  abbrev pub IsThereClean : KeepsAll → Type 0
  IsThereClean keeps = IsSuccess build_in.answer → HoldsClean here.does keeps.files.quiet asked_in build_in.build.store (files_there run)

-- What it was told at its end to be there is there, and holds that; and what no command makes was told as it is there.
pub record ToldIsThere (run : Run) : Type 0 where
  pub there : (p content : List ℕ) → files_told run p ≡ Some content → files_there run p ≡ Some content
  pub sources : (p : List ℕ) → is_made_in run.counts p ≡ false → files_told run p ≡ files_there run p

-- THE BUILD IS AS CLAIMED: what it was told is there; and where it kept all premises, it started only commands out of date, and a success leaves
-- what the clean build gives, of the files that it was told and of those that are there.
pub record IsAsClaimed (here : Conventions) (run : Run) (was : WasRun run) (fits : IsOwnIn here.own run.request.folder) : Type 0 where
  pub shows : ToldIsThere run
  pub stale : (keeps : KeepsAll here run was fits) → StartsStale here run was fits keeps
  pub clean : (keeps : KeepsAll here run was fits) → IsToldClean here run was fits keeps
  pub there : (keeps : KeepsAll here run was fits) → IsThereClean here run was fits keeps

-- ---- of builds one after another

-- THE NEXT BUILD, behind what was before: it was run, and its logs lie where the program's own files do; what others did before it counts, and its
-- number is later than the records; and it kept what its records suppose.
pub record IsNext (here : Conventions) (before : Before) (run : Run) : Type 0 where
  pub was : WasRun run
  pub fits : IsOwnIn here.own run.request.folder
  pub others : OthersCount here before run
  pub number : HasLateNumber here run
  pub keeps : KeepsRecords here run was fits

-- each of these builds, one after another
abbrev pub AreNext : Conventions → Before → List Run → Type 0
AreNext here before [] = Unit {0}
AreNext here before (run ∷ runs) = IsNext here before run × AreNext here (ended_by run) runs

abbrev pub AreAsClaimed : (here : Conventions) → (before : Before) → (runs : List Run) → AreNext here before runs → Type 0
AreAsClaimed here before [] next = Unit {0}
AreAsClaimed here before (run ∷ runs) next = IsAsClaimed here run next.0.was next.0.fits × AreAsClaimed here (ended_by run) runs next.1

-- FROM FAITHFUL RECORDS, EACH OF THESE BUILDS IS AS CLAIMED, however many there are and whatever others did between.
abbrev pub RunsAreClean : Type 0
RunsAreClean =
    (here : Conventions) (edges : List Edge) (first : World) (runs : List Run) → IsFaithfulStore here.does here.format here.own edges first
    → (next : AreNext here (Told first.history) runs) → AreAsClaimed here (Told first.history) runs next
