-- What the definitions refuse.
use Rattle.std.specs.Prelude.{◌≡◌, ◌≢◌, ℕ, ◌≤◌, ◌<◌, Bool, true, false, List, [], ◌∷◌, ◌++◌, Some, None, codes}
use Rattle.model.specs.declared.event.Event.TheVariants.{Start, Finish}
use Rattle.model.specs.declared.event.Moment.{Moment}
use Rattle.model.specs.declared.event.Moment.TheVariants.{Wrote, Happened}
use Rattle.model.specs.declared.event.Writer.TheVariants.{Program, Someone}
use Rattle.model.specs.declared.fault.SiteFault.TheVariants.{Stopped, Memory}
use Rattle.model.specs.declared.graph.Edge.{Edge}
use Rattle.model.specs.declared.moves.Move.{Move}
use Rattle.model.specs.declared.moves.Move.TheVariants.{Write, Build}
use Rattle.model.specs.World.{World, View, view_of, runs}
use Rattle.model.specs.Graph.{has}
use Rattle.model.specs.Outcome.{Behaviour}
use Rattle.model.specs.Records.{Store, LogFormat, OwnFiles}
use Rattle.model.specs.Schedule.{Step, Judged, Started, Ended, IsLawful}
use Rattle.model.specs.Premises.{EndedAt, OwnFilesApart, FilesAreKept, RecordedApart, StartsAreTicked}
use Rattle.model.specs.Kept.{KeepsRecords, StartedUnder}
use Rattle.model.specs.SingleBuild.{Asked, Answer, Fault, SingleBuild, EndRightly, EndAsRead, IsFrame, StartsOnlyStale, AreCleanByOutputs, AreLoadsHeldAt, is_fault}
use Rattle.model.specs.Faithful.{IsFaithfulStore}
use Rattle.model.specs.History.{Visit, IsNotRead}
use Rattle.model.specs.Driven.{Reader, IsDriven, CarriesOut, RestartsFrom, is_restart, asks_restart}
use Rattle.witness.specs.Small.{act_with, copy, edge_with, edges, asked, copies, words, no_records, done_under, world_with, task}

-- ---- records

abbrev pub ran_well : List Step
ran_well = Judged 1 true ∷ Started 1 ∷ Ended 1 true ∷ []

-- the command was started under this stamp, and ended well by itself
abbrev pub RanWell : ℕ → World → World → Type 0
RanWell stamp old new = StartedUnder 1 stamp old new × ((at : List Moment) × EndedAt 1 old.history new.history at)

-- What the logs may not tell at the exit of a build; it found no record, where nothing else is said.
pub record RefusedRecords : Type 0 where
  -- a made-up line that says done, for the edge whose start met the fault
  pub of_a_refused_start : (old new : World) (start : ℕ) → KeepsRecords copies asked no_records (done_under start) (Judged 1 true ∷ []) (Some 1) old new → ⊥
  -- one of another start, for the edge whose taking in met the fault
  pub of_another_start : (old new : World) (stamp other : ℕ) → RanWell stamp old new → other ≢ stamp
      → KeepsRecords copies asked no_records (done_under other) ran_well (Some 1) old new → ⊥
  -- one for a command that failed or still runs, also where it was there before
  pub of_a_failed_command : (entry : Store) (old new : World) (start : ℕ) → KeepsRecords copies asked entry (done_under start) (Judged 1 true ∷ Started 1 ∷ Ended 1 false ∷ []) None old new → ⊥
  pub of_a_running_command : (entry : Store) (old new : World) (start : ℕ) → KeepsRecords copies asked entry (done_under start) (Judged 1 true ∷ Started 1 ∷ []) None old new → ⊥
  -- one for a path that nobody made
  pub of_a_clean_edge : (old new : World) (start : ℕ) → KeepsRecords copies asked no_records (done_under start) (Judged 1 false ∷ []) None old new → ⊥
  -- none for a command that ended well
  pub none_of_a_good_run : (old new : World) (stamp : ℕ) → RanWell stamp old new → KeepsRecords copies asked no_records no_records ran_well None old new → ⊥

-- ---- faults

-- What no build may answer or do, whatever was asked: each of these is said of every site.
pub record RefusedFaults : Type 0 where
  -- a call was refused, and the answer is none
  pub swallowed : (tells : Bool) (B : Behaviour) (format : LogFormat) (own : OwnFiles) (wanted : Asked) (old new : World) (answer : Answer)
      → is_fault answer ≡ false → old.failures < new.failures → SingleBuild tells B format own wanted old new answer → ⊥
  -- the same where the build files were not read
  pub swallowed_unread : (tells : Bool) (old new : World) (answer : Answer) → is_fault answer ≡ false → old.failures < new.failures → IsNotRead tells old new answer → ⊥
  -- a command was started after a call that was refused in this build, whatever is answered
  pub went_on : (tells : Bool) (B : Behaviour) (format : LogFormat) (own : OwnFiles) (wanted : Asked) (old new : World) (answer : Answer)
      → old.failures_at_start ≤ old.failures → old.failures < new.failures_at_start → SingleBuild tells B format own wanted old new answer → ⊥
  -- the site has stopped, and the answer is another
  pub stop_unsaid : (tells : Bool) (B : Behaviour) (format : LogFormat) (own : OwnFiles) (wanted : Asked) (old new : World) (answer : Answer)
      → new.stopped ≡ true → answer ≢ Fault Stopped → SingleBuild tells B format own wanted old new answer → ⊥
  -- a command runs after an answer that is no fault
  pub still_running : (tells : Bool) (B : Behaviour) (format : LogFormat) (own : OwnFiles) (wanted : Asked) (old new : World) (answer : Answer) (job : ℕ)
      → is_fault answer ≡ false → runs job new.events ≡ true → SingleBuild tells B format own wanted old new answer → ⊥
  -- a command runs, whatever was answered, though no wait was refused and the site has not stopped
  pub left_running : (tells : Bool) (B : Behaviour) (format : LogFormat) (own : OwnFiles) (wanted : Asked) (old new : World) (answer : Answer) (job : ℕ)
      → new.stopped ≡ false → new.wait_refused ≡ None → runs job new.events ≡ true → SingleBuild tells B format own wanted old new answer → ⊥
  -- want of memory is answered after a call was refused, though no wait was
  pub hidden_by_memory : (tells : Bool) (B : Behaviour) (format : LogFormat) (own : OwnFiles) (wanted : Asked) (old new : World)
      → old.failures < new.failures → new.wait_refused ≡ None → SingleBuild tells B format own wanted old new (Fault Memory) → ⊥

-- ---- moves

-- whatever a build reads, and whatever it answers where its files are refused: what is refused here is refused with every reader
abbrev pub anything : Reader
anything = record { Reads = λ targets old new wanted. Unit {0}; Refuses = λ targets old new answer. Unit {0} }

-- What is no way to carry out a list of moves.
pub record RefusedMoves : Type 0 where
  -- a build is asked for, and none answers
  pub skipped_build : (tells : Bool) (B : Behaviour) (format : LogFormat) (targets : List (List ℕ)) (moves : List Move) (first last : World)
      → IsDriven tells B format anything (Build targets ∷ moves) [] first last → ⊥
  -- a file is to be written, and the site is as before
  pub skipped_edit : (B : Behaviour) (format : LogFormat) (path content : List ℕ) (world : World) → world.stopped ≡ false
      → IsDriven true B format anything (Write path content ∷ []) [] world world → ⊥
  -- no restart comes after a move that asks for one, or one after a move that asks for none
  pub missing_restart : (tells : Bool) (B : Behaviour) (format : LogFormat) (v w : Visit tells B format) (visits : List (Visit tells B format))
      → asks_restart v ≡ true → is_restart w ≡ false → RestartsFrom false (v ∷ w ∷ visits) → ⊥
  pub needless_restart : (tells : Bool) (B : Behaviour) (format : LogFormat) (v w : Visit tells B format) (visits : List (Visit tells B format))
      → asks_restart v ≡ false → is_restart w ≡ true → RestartsFrom false (v ∷ w ∷ visits) → ⊥
  -- a restart comes before the first move, or after the last
  pub first_restart : (tells : Bool) (B : Behaviour) (format : LogFormat) (v : Visit tells B format) (visits : List (Visit tells B format))
      → is_restart v ≡ true → RestartsFrom false (v ∷ visits) → ⊥
  pub last_restart : (tells : Bool) (B : Behaviour) (format : LogFormat) (v : Visit tells B format) (visits : List (Visit tells B format)) (moves : List Move)
      → is_restart v ≡ true → CarriesOut anything moves (visits ++ v ∷ []) → ⊥
  -- there are answers that no build gave
  pub answer_of_nothing : (tells : Bool) (B : Behaviour) (format : LogFormat) (answer : Answer) (answers : List Answer) (first last : World)
      → IsDriven tells B format anything [] (answer ∷ answers) first last → ⊥
  pub second_answer : (tells : Bool) (B : Behaviour) (format : LogFormat) (targets : List (List ℕ)) (answer other : Answer) (answers : List Answer) (first last : World)
      → IsDriven tells B format anything (Build targets ∷ []) (answer ∷ other ∷ answers) first last → ⊥

-- ---- stores and files

-- the deps log tells of a start to come: the clock is at 3
abbrev pub too_early : OwnFiles → World
too_early own = world_with (Wrote Program own.deps_log (Some (codes "future")) 3 ∷ []) [] 0

-- the command has a depfile and a response file
abbrev pub with_both : List Edge
with_both = edge_with (act_with (codes "copy") (codes "d") (codes "r")) ∷ []

abbrev pub own : OwnFiles
own = record {
  build_log = codes "l";
  deps_log = codes "m";
  files = λ p. has (codes "l" ∷ codes "m" ∷ codes "t" ∷ []) p;
  set = λ p. has (codes "l" ∷ codes "m" ∷ codes "t" ∷ codes "d" ∷ codes "r" ∷ [] ∷ []) p;
}

abbrev pub start_of_both : Moment
start_of_both = Happened (Start 1 (act_with (codes "copy") (codes "d") (codes "r")) 9)

abbrev pub response : Moment
response = Wrote Program (codes "r") (Some (codes "x")) 8

abbrev pub old_depfile : List Moment
old_depfile = Wrote Program (codes "d") (Some (codes "y")) 7 ∷ []

abbrev pub starts_one : List Step
starts_one = Judged 1 true ∷ Started 1 ∷ []

-- the command has one path for its depfile and its response file
abbrev pub one_path : List Edge
one_path = edge_with (act_with (codes "copy") (codes "d") (codes "d")) ∷ []

abbrev pub start_of_one : Moment
start_of_one = Happened (Start 1 (act_with (codes "copy") (codes "d") (codes "d")) 9)

-- its response file is written, where a depfile would stand
abbrev pub over_depfile : Moment
over_depfile = Wrote Program (codes "d") (Some (codes "x")) 8

pub record RefusedFiles : Type 0 where
  -- a deps record of a start that is still to come
  pub future : (all : OwnFiles) → IsFaithfulStore copies words all [] (too_early all) → ⊥
  -- a log among the recorded inputs
  pub log_as_input : (all : OwnFiles) (recorded : ℕ → List (List ℕ)) → OwnFilesApart all edges → has (recorded 1) all.build_log ≡ true → RecordedApart all recorded → ⊥
  -- a start without its response file, or with an old depfile, though only commands write outputs and nothing is edited
  pub no_response_file : FilesAreKept own with_both [] (start_of_both ∷ []) × (IsFrame own with_both starts_one [] (start_of_both ∷ []) → ⊥)
  pub depfile_left : FilesAreKept own with_both old_depfile (old_depfile ++ response ∷ start_of_both ∷ [])
      × (IsFrame own with_both starts_one old_depfile (old_depfile ++ response ∷ start_of_both ∷ []) → ⊥)
  -- with one path for both no premise is broken: the response file has to be there at the start, and so the depfile is not absent
  pub one_unwritten : FilesAreKept own one_path [] (start_of_one ∷ []) × (IsFrame own one_path starts_one [] (start_of_one ∷ []) → ⊥)
  pub one_for_both : FilesAreKept own one_path [] (over_depfile ∷ start_of_one ∷ []) × IsFrame own one_path starts_one [] (over_depfile ∷ start_of_one ∷ [])
      × (view_of (over_depfile ∷ []) (codes "d") ≡ None → ⊥)

-- ---- starts

-- the second start is under a stamp of before the first one's end
abbrev pub unticked : List Moment
unticked = Wrote Program (codes "t") (Some []) 9 ∷ Happened (Start 1 copy 9) ∷ Happened (Finish 1 true) ∷ Happened (Start 2 copy 9) ∷ []

pub record RefusedStarts : Type 0 where
  -- a command that was judged clean, or not judged, is started
  pub clean : (free : List ℕ → Bool) (store : Store) (old new : List Moment) → StartsOnlyStale free edges store (Judged 1 false ∷ Started 1 ∷ []) old new → ⊥
  pub unjudged : (free : List ℕ → Bool) (store : Store) (old new : List Moment) → StartsOnlyStale free edges store (Started 1 ∷ []) old new → ⊥
  pub clean_step : IsLawful task (Judged 1 false ∷ Started 1 ∷ []) → ⊥
  pub unjudged_step : IsLawful task (Started 1 ∷ []) → ⊥
  -- it is started twice
  pub twice : IsLawful task (Judged 1 true ∷ Started 1 ∷ Ended 1 true ∷ Started 1 ∷ []) → ⊥
  -- an edge whose output is absent is judged clean, whatever it reads and the logs tell
  pub absent_output : (store : Store) → AreCleanByOutputs edges store (Judged 1 false ∷ []) [] → ⊥
  -- it has no stamp of its own
  pub without_tick : StartsAreTicked [] unticked → ⊥

-- ---- loads

-- `build b: copy a || dd`, with `dyndep = dd`
abbrev pub naming : List Edge
naming = record (edge_with copy) { order_only_inputs = codes "dd" ∷ []; dyndep = Some (codes "dd") } ∷ []

abbrev pub dd_there : List Moment
dd_there = Wrote Someone (codes "dd") (Some (codes "nothing")) 9 ∷ []

pub record RefusedLoads : Type 0 where
  -- a dyndep file is read as what it does not hold, and nobody has written since the entry: whatever follows by what is read
  pub other_text : (texts : View) → texts (codes "dd") ≡ Some (codes "other") → AreLoadsHeldAt texts task no_records [] (record { edges = naming; steps = [] } ∷ []) dd_there dd_there → ⊥

-- ---- ends

abbrev pub with_depfile : List Edge
with_depfile = edge_with (act_with (codes "copy") (codes "d") []) ∷ []

-- no depfile can be read
abbrev pub refuses_depfiles : Behaviour
refuses_depfiles = record { outcome = copies.outcome; depfile = λ content. None; dyndep = copies.dyndep }

pub record RefusedEnds : Type 0 where
  -- a command ended well by itself and has no depfile, and is said to have failed
  pub failed : (old new at : List Moment) → EndedAt 1 old new at
      → EndRightly copies edges (Judged 1 true ∷ Started 1 ∷ Ended 1 false ∷ []) None old new → ⊥
  -- no depfile can be refused, and it is said to have failed, whatever others write
  pub unread : (old new at : List Moment) → EndedAt 1 old new at
      → EndAsRead copies with_depfile (Judged 1 true ∷ Started 1 ∷ Ended 1 false ∷ []) None old new → ⊥
  -- it left a depfile that is refused, and is said to have ended well
  pub well : (old new at : List Moment) (content : List ℕ) → EndedAt 1 old new at → view_of at (codes "d") ≡ Some content
      → EndRightly refuses_depfiles with_depfile ran_well None old new → ⊥

-- All of it.
pub record RefusedRows : Type 0 where
  pub records : RefusedRecords
  pub faults : RefusedFaults
  pub moves : RefusedMoves
  pub files : RefusedFiles
  pub starts : RefusedStarts
  pub loads : RefusedLoads
  pub ends : RefusedEnds
