-- What `drive` promises, over the definition of a list of moves that was carried out (model's `Driven`).
use Rattle.std.specs.Prelude.{◌≡◌, ◌⊎◌, ℕ, Bool, false, IsTrue, List, [], ◌∷◌, ◌++◌, Option, Some, None}
use Rattle.std.specs.List.{AllByRecursion}
use Rattle.model.specs.declared.act.Act.{Act}
use Rattle.model.specs.declared.graph.BuildGraph.{BuildGraph}
use Rattle.model.specs.declared.graph.Edge.{Edge}
use Rattle.model.specs.declared.moves.Move.{Move}
use Rattle.model.specs.declared.moves.Move.TheVariants.{Write, Delete, Build}
use Rattle.model.specs.declared.fault.SiteFault.TheVariants.{Memory}
use Rattle.model.specs.declared.outcome.Outcome.{Outcome}
use Rattle.model.specs.Driven.{Reader, StartsAgain, asks_at_end, IsCutNext, IsDriven, IsCutShort}
use Rattle.model.specs.Faithful.{IsFaithfulStore}
use Rattle.model.specs.Graph.{Addition}
use Rattle.model.specs.History.{Visit, IsKeptBetween, Edited, Built, Unread, Restarted, LeavesOutputs, Keeps, last_edges}
use Rattle.model.specs.Outcome.{Behaviour}
use Rattle.model.specs.Phases.{steps_of}
use Rattle.model.specs.Premises.{StampsGrow, NothingIsEdited}
use Rattle.model.specs.Records.{LogFormat, OwnFiles, IsOwnIn}
use Rattle.model.specs.SingleBuild as answer
use Rattle.model.specs.SingleBuild.{Asked, Answer, SingleBuild, asked_with}
use Rattle.model.specs.World.{World, View}
use Rattle.log_text.specs.DepsFormat.{ReadsLogs}
use Rattle.depfile.specs.Depfile.{IsReading}
use Rattle.manifest.specs.Answer.{IsGraph}
use Rattle.manifest.specs.declared.fault.ReadError.{ReadError}
use Rattle.manifest.specs.declared.fault.ReadError.TheVariants as read
use Rattle.builder.specs.Asked.{AreTargets, IsFolder}
use Rattle.builder.specs.Build.{Says, NamesFault, IsUnread, ReadsFirst, RemovesFiles, LeavesAlone, asked_of, limits_of}
use Rattle.work.specs.Loads.{ReadsDyndeps, RefusesFile}
use Rattle.builder.specs.declared.asked.Limits.{Limits}
use Rattle.work.specs.declared.report.Options.{Options}
use Rattle.work.specs.declared.report.Report.{Report}

-- ---- what a build reads

-- The file of this name was read as a graph, before anything else was done, and this is what the words ask of it within these limits:
-- its edges are what the file declares, and the graph of the build is that of the file over the edges at its end.
pub record IsRead (tells : Bool) (name : List ℕ) (limits : Limits) (words : List (List ℕ)) (old new : World) (asked : Asked) : Type 0 where
  pub graph : BuildGraph
  pub formed : IsGraph graph
  pub file : ReadsFirst tells name graph old new
  -- the canonical paths of the words
  pub targets : List (List ℕ)
  pub canonical : AreTargets words targets
  pub folder : List ℕ
  pub in_folder : IsFolder graph.builddir folder
  -- the edges at the end, with what the loaded dyndep files add
  pub grown : List Edge
  pub is : asked ≡ asked_with (asked_of graph folder limits targets) grown

-- the answer of a build whose files were not read
abbrev pub unread_answer : ReadError → Answer
unread_answer read.Memory = answer.Fault Memory
unread_answer (read.Site fault) = answer.Fault fault
unread_answer (read.Refused fault) = answer.Refused

-- the file of this name was not read, and of that the build made this report and this answer
abbrev pub IsRefused : Bool → List ℕ → World → World → Report → Answer → Type 0
IsRefused tells name old new report said = (unread : IsUnread tells name old new report) × (said ≡ unread_answer unread.error)

-- what builds read that are asked for with words, where the build file has this name
abbrev pub words_in : Bool → List ℕ → Limits → Reader
words_in tells name limits = record {
  Reads = λ words old new asked. IsRead tells name limits words old new asked;
  Refuses = λ words old new said. (report : Report) × IsRefused tells name old new report said;
}

-- ---- reports

-- the words of the builds among the moves, in order
abbrev pub words_of : List Move → List (List (List ℕ))
words_of [] = []
words_of (Write path content ∷ moves) = words_of moves
words_of (Delete path ∷ moves) = words_of moves
words_of (Build words ∷ moves) = words ∷ words_of moves

-- the builds among the visits, in order
abbrev pub builds_in : {tells : Bool} {B : Behaviour} {format : LogFormat} → List (Visit tells B format) → List (Visit tells B format)
builds_in [] = []
builds_in (Edited path content old new edit ∷ visits) = builds_in visits
builds_in (Built asked old new said build ∷ visits) = Built asked old new said build ∷ builds_in visits
builds_in (Unread old new said cause ∷ visits) = Unread old new said cause ∷ builds_in visits
builds_in (Restarted edges old new restart ∷ visits) = builds_in visits

-- a dyndep file that has ended the build is refused with its cause, as `build` promises it
abbrev pub HasCauseOf : {tells : Bool} → {B : Behaviour} → {format : LogFormat} → {own : OwnFiles} → {asked : Asked} → {old new : World} → {said : Answer} → Report → SingleBuild tells B format own asked old new said → Type 0
HasCauseOf {tells} {B} {format} {own} {asked} {old} {new} {said} report build =
    RefusesFile tells own asked build.store (steps_of build.schedule.lawful.earlier ++ build.schedule.lawful.last) old new report

-- the report says this answer of what was asked for with these words, and names the fault of edges that are no graph
abbrev pub SaysOf : List (List ℕ) → Asked → Answer → Report → Type 0
SaysOf words asked said report = Says asked.declared words asked.targets report said × NamesFault asked.folder asked.declared asked.graph.edges report

-- The visit is a build that was asked for with these words, and this is its report, as `build` promises it, for any own files that lie
-- in the folder.
abbrev pub Reports : {tells : Bool} {B : Behaviour} {format : LogFormat} → List ℕ → List (List ℕ) → Visit tells B format → Report → Type 0
Reports name words (Edited path content old new edit) report = ⊥
Reports {tells} {B} {format} name words (Built asked old new said build) report =
    SaysOf words asked said report × ((own : OwnFiles) (fits : IsOwnIn own asked.folder) → HasCauseOf report (build own fits))
Reports {tells} {B} {format} name words (Unread old new said cause) report = IsRefused tells name old new report said
Reports name words (Restarted edges old new restart) report = ⊥

-- one report for each build, in order
abbrev pub ReportEach : {tells : Bool} {B : Behaviour} {format : LogFormat} → List ℕ → List (List (List ℕ)) → List (Visit tells B format) → List Report → Type 0
ReportEach name [] [] [] = Unit {0}
ReportEach name [] [] (report ∷ reports) = ⊥
ReportEach name [] (v ∷ visits) reports = ⊥
ReportEach name (words ∷ others) [] reports = ⊥
ReportEach name (words ∷ others) (v ∷ visits) [] = ⊥
ReportEach name (words ∷ others) (v ∷ visits) (report ∷ reports) = Reports name words v report × ReportEach name others visits reports

-- ---- files of commands

-- a build among the visits leaves the files of running commands alone, and removes those of commands that ended well, as `build`
-- promises it
abbrev pub HasFiles : {tells : Bool} {B : Behaviour} {format : LogFormat} → Visit tells B format → Type 0
HasFiles (Edited path content old new edit) = Unit {0}
HasFiles {tells} {B} {format} (Built asked old new said build) = (own : OwnFiles) (fits : IsOwnIn own asked.folder) → LeavesAlone tells own asked old new × RemovesFiles (build own fits)
HasFiles (Unread old new said cause) = Unit {0}
HasFiles (Restarted edges old new restart) = Unit {0}

-- ---- a list of moves

abbrev pub behaving : (Act → View → Outcome) → (List ℕ → Option (List (List ℕ))) → (List ℕ → Option (List Addition)) → Behaviour
behaving outcome depfile dyndep = record { outcome = outcome; depfile = depfile; dyndep = dyndep }

-- The moves were carried out: by visits under the headline, with a restart just where one was asked for, and these are the reports
-- of the builds among them, which leave and remove the files of commands as they should.
pub record WasDriven (tells : Bool) (B : Behaviour) (format : LogFormat) (name : List ℕ) (limits : Limits) (moves : List Move) (reports : List Report) (first last : World) : Type 0 where
  pub answers : List Answer
  pub driven : IsDriven tells B format (words_in tells name limits) moves answers first last
  pub reported : ReportEach name (words_of moves) (builds_in driven.visits) reports
  pub files : AllByRecursion HasFiles driven.visits

-- so it is for each format and each reading of depfiles and of dyndep files by which logs and such files are read as they are defined
abbrev pub Drives : Bool → (Act → View → Outcome) → List ℕ → Limits → List Move → List Report → World → World → Type 0
Drives tells outcome name limits moves reports first last =
    (format : LogFormat) (depfile : List ℕ → Option (List (List ℕ))) (dyndep : List ℕ → Option (List Addition)) → IsReading depfile → ReadsDyndeps dyndep → ReadsLogs format
    → WasDriven tells (behaving outcome depfile dyndep) format name limits moves reports first last

-- so it is with these options, of a site: `world` tells its world, which the call found as `old` and left as `new`
abbrev pub DrivesAt : {S : Type 0} → Bool → (Act → View → Outcome) → (S → World) → S → S → Options → List Move → List Report → Type 0
DrivesAt tells outcome world old new options moves reports =
    Drives tells outcome options.file (limits_of options) moves reports (world old) (world new)

-- ---- without memory

-- the moves begin with an edit, which writes no output that has a record in force, and no log
abbrev pub EditLeavesOutputs : LogFormat → OwnFiles → List Move → World → Type 0
EditLeavesOutputs format own [] old = ⊥
EditLeavesOutputs format own (Write path content ∷ moves) old = LeavesOutputs format own path (Some content) old
EditLeavesOutputs format own (Delete path ∷ moves) old = LeavesOutputs format own path None old
EditLeavesOutputs format own (Build words ∷ moves) old = ⊥

-- the device refused nothing meanwhile, and the site has not stopped
abbrev pub IsUnrefused : World → World → Type 0
IsUnrefused old new = (new.failures ≡ old.failures) × (new.stopped ≡ false)

-- An edit found no memory: the moves before it were carried out, the site was started again where that was asked for, and the edit is
-- left by half. A faithful store stays faithful over that too, where all of it keeps the premises.
pub record IsCutInEdit (tells : Bool) (B : Behaviour) (format : LogFormat) (R : Reader) (moves : List Move) (first last : World) : Type 0 where
  pub short : IsCutShort tells B format R moves first last
  pub files : AllByRecursion HasFiles short.driven.visits
  pub again : World
  pub starts : StartsAgain tells (asks_at_end false short.driven.visits) short.before again
  pub cut : IsCutNext tells short.rest again last
  pub unrefused : IsUnrefused again last
  pub faithful : (own : OwnFiles) → IsTrue tells → IsFaithfulStore B format own [] first → AllByRecursion (λ v. Keeps own v) short.driven.visits
      → IsKeptBetween format own (last_edges [] short.driven.visits) short.before again
      → StampsGrow again.history last.history → NothingIsEdited again.history last.history → EditLeavesOutputs format own short.rest again
      → IsFaithfulStore B format own (last_edges [] short.driven.visits) last

-- there was no room for the reports, and nothing was done; or an edit found no memory, and that was the end
abbrev pub StopsShort : Bool → (Act → View → Outcome) → List ℕ → Limits → List Move → World → World → Type 0
StopsShort tells outcome name limits moves first last =
    (last ≡ first)
    ⊎ ((format : LogFormat) (depfile : List ℕ → Option (List (List ℕ))) (dyndep : List ℕ → Option (List Addition)) → IsReading depfile → ReadsDyndeps dyndep → ReadsLogs format
    → IsCutInEdit tells (behaving outcome depfile dyndep) format (words_in tells name limits) moves first last)

-- so it is with these options, of a site
abbrev pub StopsShortAt : {S : Type 0} → Bool → (Act → View → Outcome) → (S → World) → S → S → Options → List Move → Type 0
StopsShortAt tells outcome world old new options moves = StopsShort tells outcome options.file (limits_of options) moves (world old) (world new)
