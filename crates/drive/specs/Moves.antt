-- What one move has come to, and the moves so far: what the functions of this crate tell one another.
use Rattle.std.specs.Prelude.{◌≡◌, ℕ, Bool, true, false, List, [], ◌∷◌, ◌++◌, Option, length, Result, Ok, Err, IfOk, OnOk}
use Rattle.std.specs.List.{AllByRecursion}
use Rattle.model.specs.declared.act.Act.{Act}
use Rattle.model.specs.declared.fault.SiteFault.{SiteFault}
use Rattle.model.specs.declared.fault.SiteFault.TheVariants.{Device, Stopped, Memory}
use Rattle.model.specs.declared.moves.Move.{Move}
use Rattle.model.specs.declared.moves.Move.TheVariants.{Write, Delete, Build}
use Rattle.model.specs.declared.outcome.Outcome.{Outcome}
use Rattle.model.specs.Driven.{Does, HasLogs, CarriesOut, RestartsFrom, asks_restart, asks_at_end}
use Rattle.model.specs.Graph.{Addition}
use Rattle.model.specs.History.{Visit, IsEdit, IsHistory, entry_of, exit_of}
use Rattle.model.specs.Outcome.{Behaviour}
use Rattle.model.specs.Premises.{HaveEnded}
use Rattle.model.specs.Records.{LogFormat}
use Rattle.model.specs.World.{World, View}
use Rattle.log_text.specs.DepsFormat.{ReadsLogs}
use Rattle.depfile.specs.Depfile.{IsReading}
use Rattle.theory.specs.Histories.{HasHeadline}
use Rattle.builder.specs.Build.{IsBuild, limits_of}
use Rattle.work.specs.Loads.{ReadsDyndeps}
use Rattle.builder.specs.declared.asked.Limits.{Limits}
use Rattle.work.specs.declared.report.Options.{Options}
use Rattle.work.specs.declared.report.Report.{Report}
use Rattle.work.specs.declared.report.Report.TheVariants.{Success, Failed, Refused, Fault}
use Rattle.drive.specs.Driven.{words_in, words_of, builds_in, ReportEach, HasFiles, behaving}

-- the report is a fault
abbrev pub reports_fault : Report → Bool
reports_fault (Success started) = false
reports_fault (Failed outputs) = false
reports_fault (Refused refusal) = false
reports_fault (Fault fault) = true

abbrev pub is_build_move : Move → Bool
is_build_move (Write path content) = false
is_build_move (Delete path) = false
is_build_move (Build words) = true

-- how many of the moves are builds
abbrev pub builds_among : List Move → ℕ
builds_among moves = length (words_of moves)

-- ---- edits

-- What an edit that ended so answers: whether the site has stopped, unless memory was wanting.
abbrev pub EndsEdit : {E : Type 0} → Result (Unit {0}) SiteFault → Result Bool E → Type 0
EndsEdit (Ok done) result = result ≡ Ok false
EndsEdit (Err Device) result = result ≡ Ok false
EndsEdit (Err Stopped) result = result ≡ Ok true
EndsEdit (Err Memory) result = OnOk result ⊥

-- a file was edited, and the site is to be started again just where it has stopped
pub record IsEdited (tells : Bool) (path : List ℕ) (content : Option (List ℕ)) (again : Bool) (old new : World) : Type 0 where
  pub edit : IsEdit tells path content old new
  pub stopped : new.stopped ≡ again

-- ---- one move

-- a build was made, its report stands behind those before it, and is a fault just where `again`
pub record IsReported (tells : Bool) (outcome : Act → View → Outcome) (name : List ℕ) (limits : Limits) (words : List (List ℕ)) (again : Bool) (before after : List Report) (old new : World) : Type 0 where
  pub report : Report
  pub built : IsBuild tells outcome name limits words old new report
  pub grows : after ≡ before ++ report ∷ []
  pub asks : again ≡ reports_fault report

-- one visit carries out the move: it tells these reports, and asks for a restart where `again`
pub record IsVisited (tells : Bool) (B : Behaviour) (format : LogFormat) (name : List ℕ) (limits : Limits) (move : Move) (again : Bool) (told : List Report) (old new : World) : Type 0 where
  pub visit : Visit tells B format
  pub entry : entry_of visit ≡ old
  pub exit : exit_of visit ≡ new
  pub does : Does (words_in tells name limits) move visit
  pub headline : HasHeadline visit
  pub logs : HasLogs visit
  pub files : HasFiles visit
  pub asks : asks_restart visit ≡ again
  pub reported : ReportEach name (words_of (move ∷ [])) (builds_in (visit ∷ [])) told

-- The move was carried out, and told these reports, as many as it has builds; and where no restart is asked for, no command runs.
pub record IsDone (tells : Bool) (outcome : Act → View → Outcome) (name : List ℕ) (limits : Limits) (move : Move) (again : Bool) (told : List Report) (old new : World) : Type 0 where
  pub counted : length told ≡ builds_among (move ∷ [])
  pub ended : again ≡ false → HaveEnded new
  pub visited : (format : LogFormat) (depfile : List ℕ → Option (List (List ℕ))) (dyndep : List ℕ → Option (List Addition)) → IsReading depfile → ReadsDyndeps dyndep → ReadsLogs format
      → IsVisited tells (behaving outcome depfile dyndep) format name limits move again told old new

-- one move was carried out, and what it told stands behind the reports before it
pub record IsCarried (tells : Bool) (outcome : Act → View → Outcome) (name : List ℕ) (limits : Limits) (move : Move) (again : Bool) (before after : List Report) (old new : World) : Type 0 where
  pub told : List Report
  pub grows : after ≡ before ++ told
  pub done : IsDone tells outcome name limits move again told old new

-- ---- What calls say with these options that are given a site: `world` tells its world, which the call found as `old` and left as `new`.

abbrev pub ReportsAt : {S : Type 0} → Bool → (Act → View → Outcome) → (S → World) → S → S → Options → List (List ℕ) → Bool → List Report → List Report → Type 0
ReportsAt tells outcome world old new options words again before after =
    IsReported tells outcome options.file (limits_of options) words again before after (world old) (world new)

abbrev pub CarriesAt : {S E : Type 0} → Bool → (Act → View → Outcome) → (S → World) → S → S → Options → Move → Result Bool E → List Report → List Report → Type 0
CarriesAt tells outcome world old new options move result before after =
    IfOk result (λ again. IsCarried tells outcome options.file (limits_of options) move again before after (world old) (world new))

-- ---- the loop

-- The moves so far were carried out by these visits, which told these reports; the site is to be started again where `again`.
pub record IsGone (tells : Bool) (B : Behaviour) (format : LogFormat) (name : List ℕ) (limits : Limits) (moves : List Move) (again : Bool) (reports : List Report) (first now : World) : Type 0 where
  pub visits : List (Visit tells B format)
  pub history : IsHistory visits first now
  pub headlines : AllByRecursion HasHeadline visits
  pub logs : AllByRecursion HasLogs visits
  pub files : AllByRecursion HasFiles visits
  pub carries : CarriesOut (words_in tells name limits) moves visits
  pub restarts : RestartsFrom false visits
  pub asks : asks_at_end false visits ≡ again
  pub reported : ReportEach name (words_of moves) (builds_in visits) reports

-- WHAT THE LOOP KEEPS: the moves so far were carried out, and where no restart is asked for, no command runs.
pub record AreDone (tells : Bool) (outcome : Act → View → Outcome) (name : List ℕ) (limits : Limits) (moves : List Move) (again : Bool) (reports : List Report) (first now : World) : Type 0 where
  pub ended : again ≡ false → HaveEnded now
  pub gone : (format : LogFormat) (depfile : List ℕ → Option (List (List ℕ))) (dyndep : List ℕ → Option (List Addition)) → IsReading depfile → ReadsDyndeps dyndep → ReadsLogs format
      → IsGone tells (behaving outcome depfile dyndep) format name limits moves again reports first now
