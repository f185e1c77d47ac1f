-- How a build stands that loads dyndep files on its way, and how it ends.
use Rattle.std.specs.Prelude.{◌≡◌, ◌<◌, ◌++◌, ◌∷◌, ℕ, not, Bool, true, false, IsTrue, List, [], length, Option, Some, None, is_some, if◌then◌else◌, Result, Ok, Err, OnOk, IfOk, IfErr}
use Rattle.std.specs.List.{sum_by}
use Rattle.model.specs.declared.event.Moment.{Moment}
use Rattle.model.specs.declared.fault.SiteFault.{SiteFault}
use Rattle.model.specs.declared.graph.Edge.{Edge}
use Rattle.model.specs.World.{World, view_of}
use Rattle.model.specs.Calls.{OnlyLooks}
use Rattle.model.specs.Graph.{Addition, first_output, edge_at, has_number, maker, IsMadeOnce, IsMadeTwice}
use Rattle.model.specs.OutOfDate.{IsFirstMissing, IsMissingInput}
use Rattle.model.specs.Phases.{Phase, steps_of, IsGrownBy, IsDueLoad, IsNextLoad, IsPointAfter, AreAskedApart, NothingNeededIsFree, IfUnstarted, WasNothingMissing, WasNothingMissingIn}
use Rattle.model.specs.Premises.{FilesAreKept, OnlyFreeIsEdited}
use Rattle.model.specs.Records.{recorded_inputs}
use Rattle.model.specs.Schedule.{Task, Step as Done, started_in}
use Rattle.model.specs.SingleBuild as answer
use Rattle.model.specs.SingleBuild.{Answer, HeldAt, IsAsked, IsNamedMissing, IsShownCycle, HasNoCycle, NamesOther, PassesNoFault, asked_with, task_of}
use Rattle.theory.specs.Run.{IsRun}
use Rattle.theory.specs.Seen.{IsSeen, Unrefused, StartsUnrefused}
use Rattle.paths.specs.Told.{text_at}
use Rattle.graph.specs.declared.cone.Cone.{Cone}
use Rattle.graph.specs.declared.graph.Graph.{Graph}
use Rattle.graph.specs.Linked.{IsConeOf}
use Rattle.graph.specs.Told.{declared_by}
use Rattle.theory.specs.Ledger.{IsPhased}
use Rattle.plan.specs.declared.plan.Plan.{Plan}
use Rattle.plan.specs.Planned.{IsPlanned, AreTaken, IsNext}
use Rattle.judge.specs.Seen.{AreSeenOf}
use Rattle.work.specs.declared.cut.Cut.{Cut}
use Rattle.work.specs.declared.state.Work.{Work}
use Rattle.work.specs.declared.summary.Pause.{Pause}
use Rattle.work.specs.declared.summary.Pause.TheVariants as pause
use Rattle.work.specs.declared.summary.Summary.{Summary}
use Rattle.work.specs.After.{ComesAfter}
use Rattle.work.specs.Course.{Course, goes_on, Suits, IsOn}
use Rattle.work.specs.Cut.{fault_of, IsLeft}
use Rattle.work.specs.Cutting.{IsMet}
use Rattle.work.specs.Going.{IsCut, IsFinished}
use Rattle.work.specs.Ran.{HasRun}
use Rattle.work.specs.declared.report.Missing.{Missing as Lacking}
use Rattle.work.specs.declared.report.Refusal.{Refusal}
use Rattle.work.specs.declared.report.Refusal.TheVariants.{File, MadeTwice, NoDyndepInput, Occupied, NoDyndep, BadVersion, BadStatement, Unfit, UnknownTarget, Cycle, Missing}
use Rattle.work.specs.declared.report.Report.TheVariants.{Refused}
use Rattle.work.specs.declared.stop.Stop.{Stop}
use Rattle.work.specs.declared.stop.Stop.TheVariants as stop
use Rattle.work.specs.Loads.{ReadsDyndeps, NamesSource, RefusesFile}
use Rattle.work.specs.Ends.{IsMissingFor}
use Rattle.plan.specs.declared.step.Step.TheVariants.{Load}
use Rattle.graph.specs.Links.{links_of}

-- ---- where it stands

-- the course over these edges, when these phases have ended with a load each
abbrev pub grown_course : Course → List Edge → List Phase → Course
grown_course course edges phases = record {
  behaviour = course.behaviour;
  format = course.format;
  own = course.own;
  asked = asked_with course.asked edges;
  store = course.store;
  entry = course.entry;
  phases = phases;
  refused = course.refused;
}

-- the same course, whose next load, or what is missing behind the last one, was refused after these steps
abbrev pub ended_course : Course → List Done → Course
ended_course course done = record {
  behaviour = course.behaviour;
  format = course.format;
  own = course.own;
  asked = course.asked;
  store = course.store;
  entry = course.entry;
  phases = course.phases;
  refused = Some done;
}

-- what is to be done over these edges
abbrev pub task_over : Course → List Edge → Task
task_over course edges = task_of (asked_with course.asked edges) course.store

-- the path is not free: others may not write it
abbrev pub is_bound : (List ℕ → Bool) → List ℕ → Bool
is_bound free p = not (free p)

-- it has only looked since the entry, and what it has seen is so
pub record IsUnstarted (tells : Bool) (course : Course) (graph : Graph) (state : Work) (now : World) : Type 0 where
  pub looks : OnlyLooks tells course.entry now
  pub seen : IsTrue tells → (free : List ℕ → Bool) → OnlyFreeIsEdited free course.entry.history now.history
      → AreSeenOf (is_bound free) graph.manifest.paths now.history state.looks.seen.items

-- A build of the course stands between two steps of its run: these are the edges now, and these phases ended with a load. The graph
-- has them. Before the first start it has only looked.
pub record StandsAt (tells : Bool) (course : Course) (edges : List Edge) (phases : List Phase) (graph : Graph) (state : Work) (now : World) : Type 0 where
  pub goes : goes_on course ≡ true
  pub dyndeps : ReadsDyndeps course.behaviour.dyndep
  pub others : (file : List ℕ) → NamesOther course.asked.declared file → ⊥
  pub suits : Suits (grown_course course edges phases) graph
  pub on : IsOn tells (grown_course course edges phases) graph None state now
  pub acyclic : HasNoCycle (asked_with course.asked edges) course.store
  pub unstarted : started_in on.steps ≡ [] → IsUnstarted tells course graph state now

-- nothing was missing when each of these phases, and the present one, began, where nothing that is needed is free
abbrev pub HasAsked : Bool → Course → List Edge → List Phase → World → Type 0
HasAsked tells course edges phases now =
    IsTrue tells → (files : FilesAreKept course.own edges course.entry.history now.history) → NothingNeededIsFree files.free (task_over course edges)
    → WasNothingMissing course.own (task_over course edges) course.store course.entry.history now.history [] phases

-- nothing was missing when each of these phases began, and the present one, if these are its steps and there are any, where nothing that
-- is needed is free
abbrev pub HadAsked : Bool → Course → List Edge → List Phase → List Done → World → Type 0
HadAsked tells course edges phases last now =
    IsTrue tells → (files : FilesAreKept course.own edges course.entry.history now.history) → NothingNeededIsFree files.free (task_over course edges)
    → WasNothingMissingIn course.own (task_over course edges) course.store course.entry.history now.history [] phases last

-- a phase begins
pub record BeginsAt (tells : Bool) (course : Course) (edges : List Edge) (phases : List Phase) (graph : Graph) (state : Work) (now : World) : Type 0 where
  pub stands : StandsAt tells course edges phases graph state now
  pub fresh : stands.on.carried.phased.build.last ≡ []
  pub asked : HadAsked tells course edges phases [] now

-- this file is loaded next
pub record IsLoadNext (course : Course) (edges : List Edge) (graph : Graph) (state : Work) (steps : List Done) (file : ℕ) : Type 0 where
  pub next : IsNextLoad (task_over course edges) steps (text_at graph.manifest.paths file)
  pub wanted : has_number state.plan.loads.items file ≡ true
  pub known : file < length graph.manifest.paths

-- ---- why it ends

-- The next file held, when just these steps were done, what can be read and fits, and holds it where files are kept and it is not
-- free; these are the edges with what it adds.
pub record IsHeldLoad (tells : Bool) (course : Course) (edges : List Edge) (done : List Done) (now : World) (next : List Edge) : Type 0 where
  pub file : List ℕ
  pub is_next : IsNextLoad (task_over course edges) done file
  pub content : List ℕ
  pub additions : List Addition
  pub read : course.behaviour.dyndep content ≡ Some additions
  pub grown : IsGrownBy file additions edges next
  pub holds : IsTrue tells → (files : FilesAreKept course.own edges course.entry.history now.history) → files.free file ≡ false → view_of now.history file ≡ Some content
  pub held : IsTrue tells → HeldAt file (Some content) done course.entry.history now.history

-- the path is missing right behind the last start or finish of these steps: it was requested, or is an input of the edge with this first output
abbrev pub IsMissingAfter : Course → List Edge → List Done → World → List ℕ → Option (List ℕ) → Type 0
IsMissingAfter course edges done now path None =
    (at : List Moment) × IsPointAfter done course.entry.history now.history at × IsFirstMissing edges at (task_over course edges).targets path
IsMissingAfter course edges done now path (Some output) =
    (i : ℕ) × (output ≡ first_output (edge_at edges i))
    × ((at : List Moment) × IsPointAfter done course.entry.history now.history at × IsMissingInput edges course.store done at (task_over course edges).targets i path)

-- a source is missing where the present phase began
pub record IsLacking (tells : Bool) (course : Course) (edges : List Edge) (phases : List Phase) (done : List Done) (now : World) (missing : Lacking) : Type 0 where
  pub asked : IsAsked (task_over course edges) phases done
  pub named : NamesSource edges missing.path missing.needed_by
  pub needed : IsNamedMissing edges course.store (task_over course edges).targets missing.path missing.needed_by
  pub at_entry : IfUnstarted tells (task_over course edges) done course.entry.history now.history
      (IsMissingFor edges course.store done (task_over course edges).targets course.entry.history missing.path missing.needed_by)
  pub is : IsTrue tells → (files : FilesAreKept course.own edges course.entry.history now.history) → NothingNeededIsFree files.free (task_over course edges) → AreAskedApart course.own (task_over course edges) done
      → IsMissingAfter course edges done now missing.path missing.needed_by

-- Why a build goes no further that has done these steps: its next load is refused, or a source is missing.
abbrev pub IsRefusedBy : Bool → Course → List Edge → List Phase → List Done → World → Refusal → Type 0
IsRefusedBy tells course edges phases done now (File fault) = ⊥
IsRefusedBy tells course edges phases done now (NoDyndepInput path) = ⊥
IsRefusedBy tells course edges phases done now (Occupied occupied) = ⊥
IsRefusedBy tells course edges phases done now (UnknownTarget target) = ⊥
IsRefusedBy tells course edges phases done now (MadeTwice path) = (next : List Edge) × IsHeldLoad tells course edges done now next × IsMadeTwice next path
IsRefusedBy tells course edges phases done now (Cycle paths) =
    (next : List Edge) × IsHeldLoad tells course edges done now next × IsMadeOnce next × IsShownCycle (asked_with course.asked next) course.store paths
IsRefusedBy tells course edges phases done now (Missing missing) = IsLacking tells course edges phases done now missing
IsRefusedBy tells course edges phases done now (NoDyndep path) = RefusesFile tells course.own (asked_with course.asked edges) course.store done course.entry now (Refused (NoDyndep path))
IsRefusedBy tells course edges phases done now (BadVersion path) = RefusesFile tells course.own (asked_with course.asked edges) course.store done course.entry now (Refused (BadVersion path))
IsRefusedBy tells course edges phases done now (BadStatement path) = RefusesFile tells course.own (asked_with course.asked edges) course.store done course.entry now (Refused (BadStatement path))
IsRefusedBy tells course edges phases done now (Unfit unfit) = RefusesFile tells course.own (asked_with course.asked edges) course.store done course.entry now (Refused (Unfit unfit))

-- so it is of a refusal
abbrev pub IfRefused : Stop → (Refusal → Type 0) → Type 0
IfRefused (stop.Refused refusal) So = So refusal
IfRefused (stop.Fault fault) So = Unit {0}

-- so it is of a fault
abbrev pub IfFault : Stop → (SiteFault → Type 0) → Type 0
IfFault (stop.Refused refusal) So = Unit {0}
IfFault (stop.Fault fault) So = So fault

-- so it is of the refusal that a call answers,
abbrev pub OnRefusal : {T : Type 0} → Result T Stop → (Refusal → Type 0) → Type 0
OnRefusal result So = IfErr result (λ stop. IfRefused stop So)

-- or of its fault
abbrev pub OnFault : {T : Type 0} → Result T Stop → (SiteFault → Type 0) → Type 0
OnFault result So = IfErr result (λ stop. IfFault stop So)

-- how many edges still name a dyndep file
abbrev pub files_left : List Edge → ℕ
files_left edges = sum_by (λ e. if is_some e.dyndep then 1 else 0) edges

-- fewer edges name one than before
abbrev pub HasFewerFiles : Graph → Graph → Type 0
HasFewerFiles old new = files_left (declared_by new).edges < files_left (declared_by old).edges

-- ---- how a load ends

-- The file was loaded: a phase begins behind it.
abbrev pub HasBegun : Bool → Course → List Phase → Graph → Work → World → Type 0
HasBegun tells course phases graph state now =
    (next : List Edge) × (last : Phase) × BeginsAt tells course next (phases ++ last ∷ []) graph state now

-- The load was refused: the build stands where it stood, and the refusal has its cause.
pub record IsStopped (tells : Bool) (course : Course) (edges : List Edge) (phases : List Phase) (graph : Graph) (state : Work) (now : World) (refusal : Refusal) : Type 0 where
  pub stands : StandsAt tells course edges phases graph state now
  pub cause : IsRefusedBy tells course edges phases stands.on.steps now refusal

-- A fault has cut it off where it stood, over these edges.
pub record IsCutThere (tells : Bool) (course : Course) (edges : List Edge) (state : Work) (now : World) : Type 0 where
  pub phases : List Phase
  pub graph : Graph
  pub cut : IsCut tells (grown_course course edges phases) graph state.plan now
  pub once : IsMadeOnce edges
  pub acyclic : HasNoCycle (asked_with course.asked edges) course.store
  pub asked : HadAsked tells course edges phases cut.cut.phased.build.last now

-- ---- where a run halts

-- This file is loaded next, and nothing was missing when each phase began.
pub record IsAtNextLoad (tells : Bool) (course : Course) (edges : List Edge) (phases : List Phase) (graph : Graph) (state : Work) (file : ℕ) (now : World) : Type 0 where
  pub stands : StandsAt tells course edges phases graph state now
  pub next : IsLoadNext course edges graph state stands.on.steps file
  pub asked : HasAsked tells course edges phases now

-- The sources were asked for, and none is missing.
pub record HasSourcesAt (tells : Bool) (course : Course) (edges : List Edge) (phases : List Phase) (graph : Graph) (state : Work) (now : World) : Type 0 where
  pub stands : StandsAt tells course edges phases graph state now
  pub asked : HasAsked tells course edges phases now

-- The build is refused where it stands; nothing was missing when the phases began that have steps.
pub record IsRefusedAt (tells : Bool) (course : Course) (grown : List Edge) (graph : Graph) (state : Work) (now : World) (refusal : Refusal) : Type 0 where
  pub phases : List Phase
  pub stopped : IsStopped tells course grown phases graph state now refusal
  pub asked : HadAsked tells course grown phases stopped.stands.on.carried.phased.build.last now

-- whatever steps were done by a plan, no file that no edge makes is to be loaded
abbrev pub NoSourceIsDue : Graph → Plan → Type 0
NoSourceIsDue graph plan = (task : Task) (steps : List Done) → IsPlanned task graph plan steps → AreTaken task steps → (file : List ℕ) → IsDueLoad task steps file → maker task.graph.edges file ≡ None → ⊥

-- this file is loaded next, and no edge makes it
abbrev pub IsSourceNext : Graph → Plan → ℕ → Type 0
IsSourceNext graph plan file = IsNext plan (Load file) × ((links_of graph).maker file ≡ None)

-- an edge makes the path
abbrev pub IsMadePath : Graph → ℕ → Type 0
IsMadePath graph path = (edge : ℕ) × ((links_of graph).maker path ≡ Some edge)

-- it is this path, which no edge makes
abbrev pub IsThatSource : Graph → ℕ → ℕ → Type 0
IsThatSource graph path source = (source ≡ path) × ((links_of graph).maker path ≡ None)

-- what the site shows of a run that goes on: no call was refused
pub record GoesWell (old new : World) : Type 0 where
  pub unrefused : Unrefused old new
  pub starts : StartsUnrefused old new

-- what it shows of a fault between two calls of a run, before what runs is taken in,
pub record IsFaultedThere (old new : World) (fault : SiteFault) : Type 0 where
  pub met : IsMet old new fault
  pub passes : PassesNoFault old new (answer.Fault fault)

-- and behind that
pub record IsFaulted (old new : World) (fault : SiteFault) : Type 0 where
  pub seen : IsSeen old new fault
  pub passes : PassesNoFault old new (answer.Fault fault)

-- what it shows of a stop, before what runs is taken in,
abbrev pub IsStopThere : World → World → Stop → Type 0
IsStopThere old new (stop.Refused refusal) = GoesWell old new
IsStopThere old new (stop.Fault fault) = IsFaultedThere old new fault

-- and behind that
abbrev pub IsStopOf : World → World → Stop → Type 0
IsStopOf old new (stop.Refused refusal) = GoesWell old new
IsStopOf old new (stop.Fault fault) = IsFaulted old new fault

-- whenever there was the first stop before what ran was taken in, there is the last behind that,
abbrev pub StopsBehind : World → World → Stop → Stop → Type 0
StopsBehind old new first last = (entry : World) → IsStopThere entry old first → IsStopOf entry new last

-- and so it is where that was behind it
abbrev pub StopsStill : World → World → Stop → Stop → Type 0
StopsStill old new first last = (entry : World) → IsStopOf entry old first → IsStopOf entry new last

-- ---- how a run ends

-- Nothing is left to do, over these edges.
pub record HasDone (tells : Bool) (course : Course) (grown : List Edge) (graph : Graph) (cone : Cone) (now : World) (summary : Summary) : Type 0 where
  pub phases : List Phase
  pub ran : HasRun tells (grown_course course grown phases) now (Ok summary)
  pub asked : HasAsked tells course grown phases now
  pub same : (declared_by graph).edges ≡ grown
  pub once : IsMadeOnce grown
  pub acyclic : HasNoCycle (asked_with course.asked grown) course.store
  pub listed : IsConeOf grown (recorded_inputs course.store grown) (task_over course grown).targets cone.order.items cone.marks.items

-- A refusal has ended it after these steps, with which its last phase ended; since then, where the site was so, what ran was taken in.
-- Before the first step it has only looked.
pub record HasStopped (tells : Bool) (course : Course) (grown : List Edge) (now : World) (refusal : Refusal) : Type 0 where
  pub phases : List Phase
  pub done : List Done
  pub graph : Graph
  pub state : Work
  pub finished : IsFinished tells (ended_course (grown_course course grown phases) done) graph state now
  pub phased : IsPhased tells course.behaviour course.own (asked_with course.asked grown) course.store phases finished.on.steps course.entry now
  pub up_to : steps_of phases ++ phased.build.last ≡ done
  pub untouched : finished.on.steps ≡ [] → OnlyLooks tells course.entry now
  pub there : World
  pub run : IsRun tells course.own (task_over course grown) done course.entry there
  pub after : ComesAfter tells there now
  pub cause : IsRefusedBy tells course grown phases done there refusal
  pub once : IsMadeOnce grown
  pub acyclic : HasNoCycle (asked_with course.asked grown) course.store
  pub asked : HadAsked tells course grown phases phased.build.last now

-- A fault has cut it off, behind which what ran was taken in.
pub record WasCut (tells : Bool) (course : Course) (grown : List Edge) (now : World) (fault : SiteFault) : Type 0 where
  pub phases : List Phase
  pub cut : Cut
  pub is : fault_of cut ≡ fault
  pub left : IsLeft now cut
  pub ran : HasRun tells (grown_course course grown phases) now (Err cut)
  pub once : IsMadeOnce grown
  pub acyclic : HasNoCycle (asked_with course.asked grown) course.store
  pub asked : HadAsked tells course grown phases ran.cut.phased.build.last now

-- a run ends so that goes on from where a phase begins
abbrev pub HasEndedSo : Bool → Course → List Edge → Graph → Cone → World → Result Summary Stop → Type 0
HasEndedSo tells course grown graph cone now (Ok summary) = HasDone tells course grown graph cone now summary
HasEndedSo tells course grown graph cone now (Err (stop.Refused refusal)) = HasStopped tells course grown now refusal
HasEndedSo tells course grown graph cone now (Err (stop.Fault fault)) = WasCut tells course grown now fault

-- Where a stop comes about: it is refused where it stands, or a fault cuts it off, before what runs is taken in,
abbrev pub StoppedThere : Bool → Course → List Edge → Graph → Work → World → Stop → Type 0
StoppedThere tells course grown graph state now (stop.Refused refusal) = IsRefusedAt tells course grown graph state now refusal
StoppedThere tells course grown graph state now (stop.Fault fault) = IsCutThere tells course grown state now

-- and behind that.
abbrev pub HasHalted : Bool → Course → List Edge → Graph → Work → World → Stop → Type 0
HasHalted tells course grown graph state now (stop.Refused refusal) = IsRefusedAt tells course grown graph state now refusal
HasHalted tells course grown graph state now (stop.Fault fault) = WasCut tells course grown now fault

-- ---- what a load leaves

-- this file is to be loaded next by some build, whatever was asked for
abbrev pub IsToLoad : Bool → Work → ℕ → World → Type 0
IsToLoad tells state file now =
    (course : Course) × (edges : List Edge) × (phases : List Phase)
    × (stands : StandsAt tells course edges phases state.graph state now) × IsLoadNext course edges state.graph state stands.on.steps file

-- this file is loaded next by some build
abbrev pub IsLoading : Bool → Work → ℕ → World → Type 0
IsLoading tells state file now =
    (course : Course) × (edges : List Edge) × (phases : List Phase) × IsAtNextLoad tells course edges phases state.graph state file now

-- of each such build a phase begins,
abbrev pub Loads : {S T E : Type 0} → Bool → (S → World) → S → S → ℕ → Work → Work → Result T E → Type 0
Loads tells world old new file before after result =
    OnOk result ((course : Course) (edges : List Edge) (phases : List Phase) → IsAtNextLoad tells course edges phases before.graph before file (world old)
    → HasBegun tells course phases after.graph after (world new))

-- or each that is to load it stands where it stood, and the refusal has its cause,
abbrev pub RefusesAt : Bool → ℕ → Graph → Work → World → Graph → Work → World → Refusal → Type 0
RefusesAt tells file graph state old grown after new refusal =
    (course : Course) (edges : List Edge) (phases : List Phase) → (stands : StandsAt tells course edges phases graph state old)
    → IsLoadNext course edges graph state stands.on.steps file → IsStopped tells course edges phases grown after new refusal

-- or it is stopped, before what runs is taken in,
abbrev pub StopsAt : Bool → ℕ → Graph → Work → World → Graph → Work → World → Stop → Type 0
StopsAt tells file graph state old grown after new stop =
    (course : Course) (edges : List Edge) (phases : List Phase) → IsAtNextLoad tells course edges phases graph state file old
    → StoppedThere tells course (declared_by grown).edges grown after new stop

-- and behind that
abbrev pub HaltsAt : {S T : Type 0} → Bool → (S → World) → S → S → ℕ → Work → Work → Result T Stop → Type 0
HaltsAt tells world old new file before after result =
    IfErr result (λ stop. (course : Course) (edges : List Edge) (phases : List Phase) → IsAtNextLoad tells course edges phases before.graph before file (world old)
    → HasHalted tells course (declared_by after.graph).edges after.graph after (world new) stop)

-- so each is of what a call answers
abbrev pub RefusesLoad : {S T : Type 0} → Bool → (S → World) → S → S → ℕ → Work → Work → Result T Stop → Type 0
RefusesLoad tells world old new file before after result = OnRefusal result (RefusesAt tells file before.graph before (world old) after.graph after (world new))

abbrev pub StopsLoad : {S T : Type 0} → Bool → (S → World) → S → S → ℕ → Work → Work → Result T Stop → Type 0
StopsLoad tells world old new file before after result = IfErr result (StopsAt tells file before.graph before (world old) after.graph after (world new))

-- a run waits for a load, or has ended
abbrev pub HasPausedSo : Bool → Course → List Edge → List Phase → Graph → Work → World → Pause → Type 0
HasPausedSo tells course edges phases graph state now (pause.Load file) = IsAtNextLoad tells course edges phases graph state file now
HasPausedSo tells course edges phases graph state now (pause.Ended summary) = HasDone tells course edges graph state.cone now summary

-- ---- what a run leaves that begins with a phase

-- a phase begins of some build
abbrev pub IsBeginning : Bool → Work → World → Type 0
IsBeginning tells state now = (course : Course) × (edges : List Edge) × (phases : List Phase) × BeginsAt tells course edges phases state.graph state now

-- each such build has ended so, over the edges that the graph has then,
abbrev pub EndsFrom : {S : Type 0} → Bool → (S → World) → S → S → Work → Work → Result Summary Stop → Type 0
EndsFrom tells world old new before after result =
    (course : Course) (edges : List Edge) (phases : List Phase) → BeginsAt tells course edges phases before.graph before (world old)
    → HasEndedSo tells course (declared_by after.graph).edges after.graph after.cone (world new) result

-- or nothing is left to do,
abbrev pub DoneFrom : {S : Type 0} → Bool → (S → World) → S → S → Work → Work → Result Summary Stop → Type 0
DoneFrom tells world old new before after result =
    IfOk result (λ summary. (course : Course) (edges : List Edge) (phases : List Phase) → BeginsAt tells course edges phases before.graph before (world old)
    → HasDone tells course (declared_by after.graph).edges after.graph after.cone (world new) summary)

-- or it has halted
abbrev pub HaltsFrom : {S T : Type 0} → Bool → (S → World) → S → S → Work → Work → Result T Stop → Type 0
HaltsFrom tells world old new before after result =
    IfErr result (λ stop. (course : Course) (edges : List Edge) (phases : List Phase) → BeginsAt tells course edges phases before.graph before (world old)
    → HasHalted tells course (declared_by after.graph).edges after.graph after (world new) stop)

-- it pauses so,
abbrev pub PausesFrom : {S : Type 0} → Bool → (S → World) → S → S → Work → Work → Result Pause Stop → Type 0
PausesFrom tells world old new before after result =
    IfOk result (λ pause. (course : Course) (edges : List Edge) (phases : List Phase) → BeginsAt tells course edges phases before.graph before (world old)
    → HasPausedSo tells course edges phases before.graph after (world new) pause)

-- or has halted, over the same edges
abbrev pub HaltsOver : {S T : Type 0} → Bool → (S → World) → S → S → Work → Work → Result T Stop → Type 0
HaltsOver tells world old new before after result =
    IfErr result (λ stop. (course : Course) (edges : List Edge) (phases : List Phase) → BeginsAt tells course edges phases before.graph before (world old)
    → HasHalted tells course edges before.graph after (world new) stop)

-- and of each such build the sources were asked for
abbrev pub AsksFrom : {S T E : Type 0} → Bool → (S → World) → S → S → Work → Work → Result T E → Type 0
AsksFrom tells world old new before after result =
    OnOk result ((course : Course) (edges : List Edge) (phases : List Phase) → BeginsAt tells course edges phases before.graph before (world old)
    → HasSourcesAt tells course edges phases before.graph after (world new))

-- ---- behind a stop

-- wherever a build with this plan was stopped, it has halted so
abbrev pub HaltsBehind : Bool → Plan → World → World → Stop → Stop → Type 0
HaltsBehind tells plan old new first last =
    (course : Course) (grown : List Edge) (graph : Graph) (state : Work) → state.plan ≡ plan → StoppedThere tells course grown graph state old first → HasHalted tells course grown graph state new last

-- it is refused where some build stands
abbrev pub IsRefusedOf : Bool → Work → World → Refusal → Type 0
IsRefusedOf tells state now refusal = (course : Course) × (grown : List Edge) × IsRefusedAt tells course grown state.graph state now refusal

-- each build that has halted there has ended so
abbrev pub EndsHalted : {S : Type 0} → Bool → (S → World) → S → S → Work → Stop → Stop → Type 0
EndsHalted tells world old new state first last =
    (course : Course) (grown : List Edge) (cone : Cone) → HasHalted tells course grown state.graph state (world old) first → HasEndedSo tells course grown state.graph cone (world new) (Err last)

-- what it answers, as far as faults go
abbrev pub stop_answer : Result Summary Stop → Answer
stop_answer (Ok summary) = answer.Refused
stop_answer (Err (stop.Refused refusal)) = answer.Refused
stop_answer (Err (stop.Fault fault)) = answer.Fault fault
