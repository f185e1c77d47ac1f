-- What `build` promises: what it read, and the build of the graph that it read.
use Rattle.std.specs.Prelude.{◌≡◌, ◌⊎◌, ℕ, Bool, false, IsTrue, List, ◌++◌, Option, Some, None, Ok, Err, OnOk}
use Rattle.model.specs.declared.act.Act.{Act}
use Rattle.model.specs.declared.graph.BuildGraph.{BuildGraph}
use Rattle.model.specs.declared.graph.Edge.{Edge}
use Rattle.model.specs.declared.outcome.Outcome.{Outcome}
use Rattle.model.specs.World.{World, View, IsIdle}
use Rattle.model.specs.declared.event.Moment.{Moment}
use Rattle.model.specs.Graph.{Addition, IsMadeOnce}
use Rattle.model.specs.Calls.{OnlyLooks, HasCause}
use Rattle.model.specs.Outcome.{Behaviour}
use Rattle.model.specs.Premises.{FilesAreKept}
use Rattle.model.specs.Records.{LogFormat, OwnFiles, IsOwnIn}
use Rattle.model.specs.History.{IsHeadline}
use Rattle.model.specs.Kept.{KeepsLogs}
use Rattle.log_text.specs.DepsFormat.{ReadsLogs}
use Rattle.depfile.specs.Depfile.{IsReading}
use Rattle.model.specs.Phases.{steps_of}
use Rattle.model.specs.SingleBuild.{Asked, Answer, is_fault, NamesOther, SingleBuild, asked_with}
use Rattle.model.specs.SingleBuild as answer
use Rattle.manifest.specs.Answer.{ReadsFile, site_part}
use Rattle.manifest.specs.declared.fault.ReadError.{ReadError}
use Rattle.manifest.specs.declared.fault.ReadError.TheVariants as read
use Rattle.work.specs.declared.report.Refusal.TheVariants.{File, MadeTwice, NoDyndepInput, Occupied, NoDyndep, BadVersion, BadStatement, Unfit, UnknownTarget, Cycle, Missing}
use Rattle.work.specs.declared.report.Report.{Report}
use Rattle.work.specs.declared.report.Options.{Options}
use Rattle.builder.specs.declared.asked.Asked.{Asked as Request}
use Rattle.builder.specs.declared.asked.Limits.{Limits}
use Rattle.builder.specs.declared.reading.Reading.{Reading}
use Rattle.work.specs.declared.report.Report.TheVariants.{Success, Failed, Refused, Fault}
use Rattle.theory.specs.Seen.{Looked}
use Rattle.builder.specs.Asked.{AreTargets, IsFolder}
use Rattle.paths.specs.Told.{graph_of, text_at}
use Rattle.work.specs.Loads.{ReadsDyndeps, RefusesFile}
use Rattle.graph.specs.declared.fault.GraphFault.TheVariants as fault_of
use Rattle.graph.specs.Linked.{IsFaultOf}
use Rattle.graph.specs.Targets.{IsFirstUnknown}
use Rattle.theory.specs.Alone.{AreLeftAlone}
use Rattle.work.specs.Removing.{AreRemoved}
use Rattle.manifest.specs.Answer.{IsGraph}
use Rattle.work.specs.Ends.{unread}

-- the limits of these options
abbrev pub limits_of : Options → Limits
limits_of options = record { jobs = options.jobs; keep = options.keep }

-- these canonical targets are built within these limits; own files lie in this folder
abbrev pub asked_of : BuildGraph → List ℕ → Limits → List (List ℕ) → Asked
asked_of graph folder limits targets = record { graph = graph; declared = graph.edges; targets = targets; folder = folder; jobs = limits.jobs; keep = limits.keep }

abbrev pub missing_answer : List ℕ → Option (List ℕ) → Answer
missing_answer path None = answer.MissingTarget path
missing_answer path (Some output) = answer.MissingInput path output

-- a target as it was given, and its canonical path, which is the first that no build line names
pub record IsUnknown (edges : List Edge) (given targets : List (List ℕ)) (text path : List ℕ) : Type 0 where
  pub place : ℕ
  pub first : IsFirstUnknown edges targets place
  pub text_is : text ≡ text_at given place
  pub path_is : path ≡ text_at targets place

-- the report gives this answer, where targets were given so and have these canonical paths; none where the build files have a
-- fault
abbrev pub Says : List Edge → List (List ℕ) → List (List ℕ) → Report → Answer → Type 0
Says edges given targets (Success started) said = said ≡ answer.Success started
Says edges given targets (Failed outputs) said = said ≡ answer.Failed outputs
Says edges given targets (Refused (File fault)) said = ⊥
Says edges given targets (Refused (MadeTwice path)) said = said ≡ answer.MadeTwice path
Says edges given targets (Refused (NoDyndepInput path)) said = said ≡ answer.NoDyndepInput path
Says edges given targets (Refused (Occupied occupied)) said = said ≡ answer.Refused
Says edges given targets (Refused (NoDyndep path)) said = said ≡ answer.Refused
Says edges given targets (Refused (BadVersion path)) said = said ≡ answer.Refused
Says edges given targets (Refused (BadStatement path)) said = said ≡ answer.Refused
Says edges given targets (Refused (Unfit unfit)) said = said ≡ answer.Refused
Says edges given targets (Refused (UnknownTarget target)) said = (path : List ℕ) × (said ≡ answer.Unknown path) × IsUnknown edges given targets target path
Says edges given targets (Refused (Cycle paths)) said = said ≡ answer.Cyclic paths
Says edges given targets (Refused (Missing missing)) said = said ≡ missing_answer missing.path missing.needed_by
Says edges given targets (Fault fault) said = said ≡ answer.Fault fault

-- no path is made twice, and each dyndep file that an edge names is one of its inputs
pub record AreGraph (edges : List Edge) : Type 0 where
  pub once : IsMadeOnce edges
  pub inputs : (file : List ℕ) → NamesOther edges file → ⊥

-- the edges that were declared are a graph, and so they are with what the loads before have added
pub record AreGraphs (declared grown : List Edge) : Type 0 where
  pub first : AreGraph declared
  pub last : AreGraph grown

-- Where N17 or N53 is answered, the path is the one that the fault of the lowest edge names which has one, where own files lie in this
-- folder; but for a path that is made twice only with what a dyndep file adds. That, and any other refusal of a load, of targets or of
-- their cone, is answered only where the edges are a graph. The same of N54 is in RefusesFile.
abbrev pub NamesFault : List ℕ → List Edge → List Edge → Report → Type 0
NamesFault folder edges grown (Success started) = Unit {0}
NamesFault folder edges grown (Failed outputs) = Unit {0}
NamesFault folder edges grown (Refused (File fault)) = Unit {0}
NamesFault folder edges grown (Refused (MadeTwice path)) = AreGraphs edges grown ⊎ IsFaultOf folder edges (fault_of.MadeTwice path)
NamesFault folder edges grown (Refused (NoDyndepInput path)) = IsFaultOf folder edges (fault_of.NoDyndepInput path)
NamesFault folder edges grown (Refused (Occupied occupied)) = Unit {0}
NamesFault folder edges grown (Refused (NoDyndep path)) = AreGraphs edges grown
NamesFault folder edges grown (Refused (BadVersion path)) = AreGraphs edges grown
NamesFault folder edges grown (Refused (BadStatement path)) = AreGraphs edges grown
NamesFault folder edges grown (Refused (Unfit unfit)) = AreGraphs edges grown
NamesFault folder edges grown (Refused (UnknownTarget target)) = AreGraphs edges grown
NamesFault folder edges grown (Refused (Cycle paths)) = AreGraphs edges grown
NamesFault folder edges grown (Refused (Missing missing)) = AreGraphs edges grown
NamesFault folder edges grown (Fault fault) = Unit {0}

-- A build that no fault has cut off has removed the response files of commands that ended well, and of their depfiles just those
-- that are not to stay, where files are kept.
abbrev pub RemovesFiles : {tells : Bool} → {B : Behaviour} → {format : LogFormat} → {own : OwnFiles} → {asked : Asked} → {old new : World} → {said : Answer} → SingleBuild tells B format own asked old new said → Type 0
RemovesFiles {tells} {B} {format} {own} {asked} {old} {new} {said} build = is_fault said ≡ false → AreRemoved tells own asked.graph.edges build.steps None old new

-- a build leaves the depfile and the response file of each command alone while it runs, where files are kept
abbrev pub LeavesAlone : Bool → OwnFiles → Asked → World → World → Type 0
LeavesAlone tells own asked old new = IsTrue tells → FilesAreKept own asked.graph.edges old.history new.history → AreLeftAlone asked.graph.edges old.history new.history

-- The graph was built, whose edges are `grown` at the end, with what the loaded dyndep files add, and the report says how, and names the
-- fault of edges that are no graph, and no other refusal of these; a dyndep file that has ended the build is refused with its cause; the build is as the headline says,
-- keeps its logs, leaves the files of running commands alone, and removes those of commands that ended well.
pub record Builds (tells : Bool) (B : Behaviour) (format : LogFormat) (own : OwnFiles) (graph : BuildGraph) (folder : List ℕ) (limits : Limits) (given targets : List (List ℕ)) (grown : List Edge) (old new : World) (report : Report) : Type 0 where
  pub answer : Answer
  pub said : Says graph.edges given targets report answer
  pub named : NamesFault folder graph.edges grown report
  pub build : SingleBuild tells B format own (asked_with (asked_of graph folder limits targets) grown) old new answer
  pub refused : RefusesFile tells own (asked_with (asked_of graph folder limits targets) grown) build.store (steps_of build.schedule.lawful.earlier ++ build.schedule.lawful.last) old new report
  pub headline : IsHeadline tells B format own (asked_with (asked_of graph folder limits targets) grown) old new answer build
  pub logs : KeepsLogs tells B format own (asked_with (asked_of graph folder limits targets) grown) old new answer build
  pub alone : LeavesAlone tells own (asked_with (asked_of graph folder limits targets) grown) old new
  pub removed : RemovesFiles build

-- what was asked for was built from an entry on, since which there was only looked: for any own files of the program that lie in
-- this folder, and for each format and each reading of depfiles and of dyndep files by which logs and such files are read as they are
-- defined
abbrev pub BuildsFor : Bool → BuildGraph → Request → List Edge → World → World → Report → Type 0
BuildsFor tells graph asked grown old new report =
    (B : Behaviour) (format : LogFormat) (own : OwnFiles) (entry : World) → IsReading B.depfile → ReadsDyndeps B.dyndep → ReadsLogs format → IsOwnIn own asked.folder → IsIdle entry.events → Looked tells entry old
    → Builds tells B format own graph asked.folder asked.limits asked.given.now asked.targets grown entry new report

-- the files were not read, or there was no memory for what was asked: the site was only looked at, and the report is of the
-- reader's error, or of such a one
pub record IsUnread (tells : Bool) (name : List ℕ) (old new : World) (report : Report) : Type 0 where
  pub error : ReadError
  pub is : report ≡ unread error
  pub looks : OnlyLooks tells old new
  pub cause : HasCause old new (site_part {T = BuildGraph} (Err error))
  pub file : IsTrue tells → OnOk (site_part {T = BuildGraph} (Err error)) (ReadsFile name old.history new.history (Err error))

-- The file that the options name was read, in calls that only looked and of which none was refused: the manifest stands for the graph
-- that it declares. Asked of it are the canonical paths of the targets that were given, the folder that `builddir` names, and the limits
-- of the options.
pub record WasRead (tells : Bool) (options : Options) (old new : World) (read : Reading) : Type 0 where
  pub formed : IsGraph (graph_of read.manifest)
  pub file : IsTrue tells → ReadsFile options.file old.history new.history (Ok (graph_of read.manifest))
  pub looked : Looked tells old new
  pub targets : AreTargets read.asked.given.now read.asked.targets
  pub folder : IsFolder (graph_of read.manifest).builddir read.asked.folder
  pub limits_are : read.asked.limits ≡ limits_of options

-- The file of this name was read as this graph before anything else was done: up to the world where reading ended there was only looked
-- and no call was refused, and what happened until then is a beginning of all that happened.
pub record ReadsFirst (tells : Bool) (name : List ℕ) (graph : BuildGraph) (old new : World) : Type 0 where
  pub read : World
  pub looked : Looked tells old read
  pub file : IsTrue tells → ReadsFile name old.history read.history (Ok graph)
  pub since : IsTrue tells → (later : List Moment) × (new.history ≡ read.history ++ later)

-- The file of this name was read, and then the graph that it declares was built: for any own files of the program that lie in the
-- folder which `builddir` names, and for each format and each reading of depfiles and of dyndep files by which logs and such files are
-- read as they are defined.
pub record IsBuilt (tells : Bool) (outcome : Act → View → Outcome) (name : List ℕ) (limits : Limits) (given : List (List ℕ)) (old new : World) (report : Report) : Type 0 where
  pub graph : BuildGraph
  pub formed : IsGraph graph
  pub file : ReadsFirst tells name graph old new
  -- the canonical paths of the targets
  pub targets : List (List ℕ)
  pub canonical : AreTargets given targets
  pub folder : List ℕ
  pub in_folder : IsFolder graph.builddir folder
  -- the edges at the end
  pub grown : List Edge
  pub builds : (own : OwnFiles) (format : LogFormat) (depfile : List ℕ → Option (List (List ℕ))) (dyndep : List ℕ → Option (List Addition)) → IsReading depfile → ReadsDyndeps dyndep → ReadsLogs format → IsOwnIn own folder
      → Builds tells (record { outcome = outcome; depfile = depfile; dyndep = dyndep }) format own graph folder limits given targets grown old new report

abbrev pub IsBuild : Bool → (Act → View → Outcome) → List ℕ → Limits → List (List ℕ) → World → World → Report → Type 0
IsBuild tells outcome name limits given old new report = IsUnread tells name old new report ⊎ IsBuilt tells outcome name limits given old new report

-- so it is of the file and the limits of these options
abbrev pub BuildsTargets : Bool → (Act → View → Outcome) → Options → List (List ℕ) → World → World → Report → Type 0
BuildsTargets tells outcome options given old new report = IsBuild tells outcome options.file (limits_of options) given old new report
