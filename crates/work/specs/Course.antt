-- What a run is of, and where a run that goes on stands.
use Rattle.std.specs.Prelude.{◌≡◌, ◌≢◌, ◌<◌, ℕ, suc, ◌&&◌, not, Bool, true, false, IsTrue, List, [], ◌∷◌, ◌++◌, All, map, length, Option, Some, None, is_some, get_or}
use Rattle.std.specs.List.{list_any}
use Rattle.model.specs.declared.graph.Edge.{Edge}
use Rattle.model.specs.declared.record.Record.{Record}
use Rattle.model.specs.declared.record.DepsRecord.{DepsRecord}
use Rattle.model.specs.World.{World, file_at, stamp_of, IsIdle}
use Rattle.model.specs.Graph.{has, has_number, edge_at, maker, outputs, IsCommand, IsMadeOnce}
use Rattle.model.specs.Outcome.{Behaviour}
use Rattle.model.specs.Records.{Store, LogFormat, OwnFiles, recorded_inputs}
use Rattle.model.specs.OutOfDate.{input_facts}
use Rattle.model.specs.Schedule.{Step as Done, out_of_date_in, ended_in, failed_in, running_in, well_in}
use Rattle.model.specs.Phases.{Phase, AreTakenIn}
use Rattle.model.specs.Premises.{FilesAreKept}
use Rattle.model.specs.Kept.{StartedUnder}
use Rattle.model.specs.SingleBuild.{Asked, task_of}
use Rattle.paths.specs.Told.{text_at, texts_at}
use Rattle.graph.specs.declared.cone.Cone.{Cone}
use Rattle.graph.specs.declared.graph.Graph.{Graph}
use Rattle.graph.specs.Linked.{IsConeOf}
use Rattle.graph.specs.Links.{links_of}
use Rattle.graph.specs.Told.{declared_by, recorded_by, AreSameInputs}
use Rattle.depfile.specs.Depfile.{IsReading}
use Rattle.plan.specs.Flags as flags
use Rattle.plan.specs.Planned.{IsPlanned, AreTaken}
use Rattle.judge.specs.Seen.{look_at, look_of, AreSeenOf}
use Rattle.records.specs.Known.{AreKnown}
use Rattle.records.specs.Logging.{IsLogging}
use Rattle.theory.specs.Ledger.{IsCarried}
use Rattle.work.specs.Removing.{AreRemoved}
use Rattle.work.specs.declared.state.Work.{Work}

-- What a run is of: what commands do, how its logs are read, which files are its own, what was asked, what the logs told at the
-- entry, and the world of then; the phases that ended with a load; and where a load was refused, which steps were done by then. Nothing
-- of it changes but by a load.
pub record Course : Type 0 where
  pub behaviour : Behaviour
  pub format : LogFormat
  pub own : OwnFiles
  pub asked : Asked
  pub store : Store
  pub entry : World
  pub phases : List Phase
  pub refused : Option (List Done)

abbrev pub edges_of : Course → List Edge
edges_of course = course.asked.graph.edges

-- no load was refused; else what runs is taken in, and nothing else is done
abbrev pub goes_on : Course → Bool
goes_on course = not (is_some course.refused)

-- what was done since a load was refused, if one was: commands that ran were taken in
abbrev pub IsSince : Option (List Done) → List Done → Type 0
IsSince None steps = Unit {0}
IsSince (Some done) steps = (ended : List Done) × (steps ≡ done ++ ended) × AreTakenIn done ended

-- The graph declares what was asked, with the recorded inputs that are in use; each path is made once; a command has outputs;
-- depfiles are read as their grammar says; both logs are files of the program's own; no command ran at the entry.
pub record Suits (course : Course) (graph : Graph) : Type 0 where
  pub same : course.asked.graph ≡ declared_by graph
  pub recorded : AreSameInputs (recorded_inputs course.store (edges_of course)) (recorded_by graph)
  pub once : IsMadeOnce (edges_of course)
  pub some : (i : ℕ) → IsCommand (edges_of course) i → outputs (edge_at (edges_of course) i) ≢ []
  pub depfiles : IsReading course.behaviour.depfile
  pub log_owned : course.own.files course.own.build_log ≡ true
  pub deps_owned : course.own.files course.own.deps_log ≡ true
  pub idle : IsIdle course.entry.events

-- ---- what was seen

-- the depfile or the response file of a command
abbrev pub is_private : List Edge → List ℕ → Bool
is_private edges p = list_any (λ edge. not edge.phony && has (edge.act.depfile ∷ edge.act.response_path ∷ []) p) edges

-- an output of a command that runs
abbrev pub is_under_way : List Edge → List Done → List ℕ → Bool
is_under_way edges steps p = list_any (λ i. has (outputs (edge_at edges i)) p) (running_in steps)

-- Nobody writes the path while these are the steps: it is none of the free paths, which others may write at any time, no file of the
-- program's own, none of an edge's, and no output of a command that runs.
abbrev pub is_quiet : (List ℕ → Bool) → OwnFiles → List Edge → List Done → List ℕ → Bool
is_quiet free own edges steps p = not (free p) && (not (own.files p) && (not (is_private edges p) && not (is_under_way edges steps p)))

-- what was seen of quiet paths is so of the files now, where files are kept
abbrev pub IsSeenStill : Bool → Course → Graph → List Done → Work → World → Type 0
IsSeenStill tells course graph steps state now =
    IsTrue tells → (files : FilesAreKept course.own (edges_of course) course.entry.history now.history)
    → AreSeenOf (is_quiet files.free course.own (edges_of course) steps) graph.manifest.paths now.history state.looks.seen.items

-- ---- what was made anew

-- The flag of each path whose maker did not fail says whether a command of this run made it anew, by its stamps at the entry and now,
-- where files are kept.
abbrev pub AreAnew : Bool → Course → Graph → List Done → Work → World → Type 0
AreAnew tells course graph steps state now =
    IsTrue tells → FilesAreKept course.own (edges_of course) course.entry.history now.history
    → (p : ℕ) → p < length graph.manifest.paths → ((j : ℕ) → maker (edges_of course) (text_at graph.manifest.paths p) ≡ Some j → has_number (failed_in steps) j ≡ false)
    → flags.has state.plan.changed.items p ≡ (input_facts (edges_of course) (well_in steps) course.entry.history now.history (text_at graph.manifest.paths p)).changed

-- Of the outputs of each edge with `restat` that is out of date and has not ended, what is noted is what was there at the entry, where
-- files are kept.
abbrev pub AreSeenBefore : Bool → Course → Graph → List Done → Work → World → Type 0
AreSeenBefore tells course graph steps state now =
    IsTrue tells → FilesAreKept course.own (edges_of course) course.entry.history now.history
    → (e : ℕ) → has_number (out_of_date_in steps) (suc e) ≡ true → has_number (ended_in steps) (suc e) ≡ false → (edge_at (edges_of course) (suc e)).restat ≡ true
    → (p : ℕ) → has_number ((links_of graph).outputs e) p ≡ true
    → look_at state.looks.seen.items p ≡ look_of (stamp_of (file_at course.entry.history (text_at graph.manifest.paths p)))

-- ---- where a run stands

-- the records in memory, of both logs, are those that the logs told at the entry
pub record AreTold (tells : Bool) (course : Course) (graph : Graph) (state : Work) (now : World) : Type 0 where
  pub records : List Record
  pub deps : List DepsRecord
  pub known : AreKnown graph records deps state.records
  pub same : (course.store.records ≡ records) × (course.store.deps ≡ deps)

-- each command that runs was started under the stamp that is noted for it
abbrev pub AreStarted : Course → List Done → Work → World → Type 0
AreStarted course steps state now = (e : ℕ) → has_number (running_in steps) (suc e) ≡ true → StartedUnder (suc e) (get_or state.starts.items e 0) course.entry now

-- ticks touch a file of the program's own that is no log
pub record IsOwnTick (own : OwnFiles) (tick : List ℕ) : Type 0 where
  pub owned : own.files tick ≡ true
  pub no_build_log : tick ≢ own.build_log
  pub no_deps_log : tick ≢ own.deps_log

-- the cone is that of what was asked, over the graph
pub record HasCone (asked : Asked) (store : Store) (graph : Graph) (cone : Cone) : Type 0 where
  pub listed : IsConeOf asked.graph.edges (recorded_inputs store asked.graph.edges) (task_of asked store).targets cone.order.items cone.marks.items
  pub within : All (λ p. p < length graph.manifest.paths) cone.targets.items
  pub numbers : texts_at graph.manifest.paths cone.targets.items ≡ (task_of asked store).targets

-- the state has room for each path and each edge of the graph
pub record HasRoom (graph : Graph) (state : Work) : Type 0 where
  pub looks : length state.looks.seen.items ≡ length graph.manifest.paths
  pub starts : length state.starts.items ≡ length graph.manifest.lines

-- What a run has kept since the entry that goes on, or that a refused load has ended. `hand` is the edge whose start or recording is
-- under way, `failed` are those whose failure is noted.
pub record IsOn (tells : Bool) (course : Course) (graph : Graph) (hand : Option ℕ) (state : Work) (now : World) : Type 0 where
  pub steps : List Done
  pub planned : IsPlanned (task_of course.asked course.store) graph state.plan steps
  pub taken : AreTaken (task_of course.asked course.store) steps
  pub since : IsSince course.refused steps
  pub carried : IsCarried tells course.behaviour course.format course.own course.asked course.store course.phases (goes_on course) steps hand course.entry now
  pub logging : IsLogging tells course.behaviour course.format course.own (edges_of course) steps hand course.store course.entry now state.records.logs
  pub told : AreTold tells course graph state now
  pub seen : IsSeenStill tells course graph steps state now
  pub anew : AreAnew tells course graph steps state now
  pub before : AreSeenBefore tells course graph steps state now
  pub started : AreStarted course steps state now
  pub removed : AreRemoved tells course.own (edges_of course) steps hand course.entry now
  pub room : HasRoom graph state
  pub cone : HasCone course.asked course.store graph state.cone
  pub ticking : IsOwnTick course.own state.tick
  pub noted : map suc state.failed.items ≡ failed_in steps
