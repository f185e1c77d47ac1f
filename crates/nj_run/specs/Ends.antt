-- How a run of the program ends: why, with which status, and what it tells.
use Rattle.std.specs.Prelude.{◌≡◌, ◌≢◌, ◌⊎◌, ℕ, Bool, true, false, if◌then◌else◌, List, [], ◌++◌, Option, Some, None, Result, IfOk, option_map, ⊤}
use Rattle.clap.specs.Words.{IsAmong, Text, fault_of}
use Rattle.clap.specs.declared.error.kind.ErrorKind.{ErrorKind}
use Rattle.clap.specs.declared.error.kind.ErrorKind.TheVariants.{DisplayHelp, DisplayVersion, OutOfMemory}
use Rattle.model.specs.Calls.{OnlyLooks}
use Rattle.model.specs.World.{World}
use Rattle.nj_run.specs.Options.{AreAsked, Options, audits, nj}
use Rattle.work.specs.declared.report.Report.{Report}
use Rattle.work.specs.declared.report.Report.TheVariants.{Success}
use Rattle.host.specs.World.{any_outcome, fresh}
use Rattle.nj_run.specs.Alone.{BuildsAlone}
use Rattle.nj_run.specs.Status.{status_of}
use Rattle.nj_run.specs.Texts.{Adds, err_of, no_memory, no_tracer, out_of, traced_over}
use Rattle.nj_run.specs.Traces.{IsTracePath}
use Rattle.nj_run.specs.Judged.{Judged, keeps_of, told_of}

-- why a run ends
pub data Ending : Type 0 where
  -- help was asked for
  Help : Ending
  -- the words are no command line
  BadWords : Ending
  -- memory was refused before it was known what the words ask for
  NoMemory : Ending
  -- the folder of this path could not be gone to
  NoFolder : Text → Ending
  -- a build was reported so, and whether it is told what the device refused last
  Built : Report → Bool → Ending
  -- it was told why commands are due
  ToldWhy : Ending
  -- that could not be told, as is reported so, and whether it is told what the device refused last
  Unexplained : Report → Bool → Ending
  -- an audit was asked for, and nothing traces commands here: nothing was started
  NoTracer : Ending
  -- an audit was asked for, and build lines name this path, to which traces are written: nothing was started
  TracedOver : Text → Ending
  -- a build was audited and reported so, whether it is told what the device refused last, and what was found
  Audited : Report → Bool → Judged → Ending

abbrev pub exit_status : Ending → ℕ
exit_status Help = 0
exit_status BadWords = 2
exit_status NoMemory = 1
exit_status (NoFolder folder) = 1
exit_status (Built report refused) = status_of report
exit_status ToldWhy = 0
exit_status (Unexplained report refused) = 1
exit_status NoTracer = 1
exit_status (TracedOver path) = 1
exit_status (Audited report refused judged) = if keeps_of judged then status_of report else 1

-- What is told on the standard output, behind what the build showed there. Help is open (`None`): no contract of clap tells its
-- text. So is what is told of commands that are due: their paths stand in it.
abbrev pub told_on_out : Ending → Option Text
told_on_out Help = None
told_on_out BadWords = Some []
told_on_out NoMemory = Some []
told_on_out (NoFolder folder) = Some []
told_on_out (Built report refused) = out_of report
told_on_out ToldWhy = None
told_on_out (Unexplained report refused) = out_of report
told_on_out NoTracer = Some []
told_on_out (TracedOver path) = Some []
told_on_out (Audited report refused judged) = option_map (λ text. text ++ told_of judged) (out_of report)

-- What is told on the standard error. Open is what clap says of bad words, and of a folder why the system refuses it: that
-- stands behind the line of N60 and `nj: FOLDER: `.
abbrev pub told_on_err : Ending → Option Text
told_on_err Help = Some []
told_on_err BadWords = None
told_on_err NoMemory = Some no_memory
told_on_err (NoFolder folder) = None
told_on_err (Built report refused) = err_of report refused
told_on_err ToldWhy = Some []
told_on_err (Unexplained report refused) = err_of report refused
told_on_err NoTracer = Some no_tracer
told_on_err (TracedOver path) = Some (traced_over path)
told_on_err (Audited report refused _) = err_of report refused

-- help, or the version, which clap shows in the same way; `nj` has no word that asks for it
abbrev pub IsShown : ErrorKind → Type 0
IsShown kind = (kind ≡ DisplayHelp) ⊎ (kind ≡ DisplayVersion)

-- how a run ends where clap answers an error of this kind
abbrev pub EndsBy : ErrorKind → Ending → Type 0
EndsBy kind Help = IsShown kind × (kind ≢ OutOfMemory)
EndsBy kind BadWords = (¬ IsShown kind) × (kind ≢ OutOfMemory)
EndsBy kind NoMemory = kind ≡ OutOfMemory
EndsBy kind (NoFolder folder) = ⊥
EndsBy kind (Built report refused) = ⊥
EndsBy kind ToldWhy = ⊥
EndsBy kind (Unexplained report refused) = ⊥
EndsBy kind NoTracer = ⊥
EndsBy kind (TracedOver path) = ⊥
EndsBy kind (Audited report refused _) = ⊥

-- it was asked why commands are due, and the site of real files was only looked at: nothing was started or written
pub record AsksWhy (asked : Options) : Type 0 where
  pub asks : asked.why ≡ true
  pub later : World
  pub looks : OnlyLooks false fresh later

-- How a run ends where this is asked for: the folder could not be gone to; or there is a later world in which a build of just
-- this, on the site of real files on which nothing had happened, is reported so.
--
-- That world is the host's own, and is gone with it when the run ends, so `run` can only say that there is one. What this
-- leaves out, namely that `run` hands these very words, and no other site, to `build_on`, and the report of that to
-- `told::report`, is read in src/program.rt: three calls, one after another. What `build_on` does with any site its own
-- contract tells.
abbrev pub EndsFor : Options → Ending → Type 0
EndsFor asked Help = ⊥
EndsFor asked BadWords = ⊥
EndsFor asked NoMemory = ⊥
EndsFor asked (NoFolder folder) = asked.folder ≡ Some folder
EndsFor asked (Built report refused) = (asked.why ≡ false) × (audits asked ≡ false) × (later : World) × BuildsAlone false any_outcome asked fresh later report
EndsFor asked ToldWhy = AsksWhy asked
EndsFor asked (Unexplained report refused) = AsksWhy asked
EndsFor asked NoTracer = (asked.why ≡ false) × (audits asked ≡ true)
EndsFor asked (TracedOver path) = (asked.why ≡ false) × (audits asked ≡ true) × IsTracePath path
EndsFor asked (Audited report refused _) = (asked.why ≡ false) × (audits asked ≡ true) × (later : World) × BuildsAlone false any_outcome asked fresh later report

-- the words have a fault for which a run may end so
pub record AreRefused (words : List Text) (ending : Ending) : Type 0 where
  pub kind : ErrorKind
  pub fault : IsAmong kind (fault_of nj words)
  pub so : EndsBy kind ending

-- the words have no fault, and a run of what they ask for may end so
pub record AreDone (words : List Text) (ending : Ending) : Type 0 where
  pub faultless : fault_of nj words ≡ []
  pub asked : Options
  pub are_asked : AreAsked words asked
  pub so : EndsFor asked ending

-- a run of these words may end so; that memory is wanting only where it is refused is shown by tests alone
abbrev pub MayEnd : List Text → Ending → Type 0
MayEnd words Help = AreRefused words Help
MayEnd words BadWords = AreRefused words BadWords
MayEnd words NoMemory = ⊤
MayEnd words (NoFolder folder) = AreDone words (NoFolder folder)
MayEnd words (Built report refused) = AreDone words (Built report refused)
MayEnd words ToldWhy = AreDone words ToldWhy
MayEnd words (Unexplained report refused) = AreDone words (Unexplained report refused)
MayEnd words NoTracer = AreDone words NoTracer
MayEnd words (TracedOver path) = AreDone words (TracedOver path)
MayEnd words (Audited report refused judged) = AreDone words (Audited report refused judged)

-- What the standard output was where a build has ended. A build shows on it by way of the host, which keeps it as long as the
-- build lasts, and of what `Site::show` shows contracts tell nothing: it may hold anything then. Where nothing is built, it is
-- as it was.
abbrev pub ShownBefore : {W : Type 0} → Ending → W → W → Type 0
ShownBefore Help old shown = shown ≡ old
ShownBefore BadWords old shown = shown ≡ old
ShownBefore NoMemory old shown = shown ≡ old
ShownBefore (NoFolder folder) old shown = shown ≡ old
ShownBefore (Built report refused) old shown = ⊤
ShownBefore ToldWhy old shown = ⊤
ShownBefore (Unexplained report refused) old shown = ⊤
ShownBefore NoTracer old shown = shown ≡ old
ShownBefore (TracedOver path) old shown = ⊤
ShownBefore (Audited report refused _) old shown = ⊤

-- what is told of a build that was audited and reported so, and the status
pub record TellsAudit (report : Report) (told : ℕ) (old_out new_out old_err new_err : Option Text) : Type 0 where
  pub refused : Bool
  pub judged : Judged
  pub status : told ≡ exit_status (Audited report refused judged)
  pub out : Adds old_out new_out (told_on_out (Audited report refused judged))
  pub err : Adds old_err new_err (told_on_err (Audited report refused judged))

-- all was told: on the standard output, behind what was shown there, and on the standard error
pub record AllTold {W E : Type 0} (on_out : W → Option Text) (on_err : E → Option Text) (ending : Ending)
    (old_out new_out : W) (old_err new_err : E) : Type 0 where
  pub shown : W
  pub before : ShownBefore ending old_out shown
  pub out : Adds (on_out shown) (on_out new_out) (told_on_out ending)
  pub err : Adds (on_err old_err) (on_err new_err) (told_on_err ending)

-- a run has come to an ending of which this holds, and where all was told, this is its status
pub record Comes (May : Ending → Type 0) {W E F : Type 0} (on_out : W → Option Text) (on_err : E → Option Text)
    (old_out new_out : W) (old_err new_err : E) (told : Result ℕ F) : Type 0 where
  pub ending : Ending
  pub may : May ending
  pub tells : IfOk told (λ status.
      (status ≡ exit_status ending) × AllTold on_out on_err ending old_out new_out old_err new_err)

-- A run of these words ends with this status: that of its ending, and all was told; or 1, since a text could not be written, a
-- cause of which the kit's `Write` tells nothing. So it is 0 only after a build that succeeded (and keeps all premises where it was
-- audited), after help and after telling why commands are due, and 2 only where the words have a fault.
pub record Ends (words : List Text) {W E : Type 0} (on_out : W → Option Text) (on_err : E → Option Text)
    (old_out new_out : W) (old_err new_err : E) (status : ℕ) : Type 0 where
  pub ending : Ending
  pub may : MayEnd words ending
  pub tells : ((status ≡ exit_status ending) × AllTold on_out on_err ending old_out new_out old_err new_err)
      ⊎ (status ≡ 1)

-- A run of these words ends so, and then notes are told on the standard error, of whose texts contracts tell nothing.
abbrev pub EndsNoted : {W E : Type 0} → List Text → (W → Option Text) → (E → Option Text) → W → W → E → ℕ → Type 0
EndsNoted {W} {E} words on_out on_err old_out new_out old_err status =
    (told : E) × Ends words on_out on_err old_out new_out old_err told status

-- what the words ask for was audited: it was built with success, and it was found, and told, that each command was looked at and keeps all
-- premises
abbrev pub AreKept : List Text → Type 0
AreKept words =
    (started : ℕ) × (refused : Bool) × (judged : Judged) × (keeps_of judged ≡ true) × AreDone words (Audited (Success started) refused judged)

-- help was asked for, or it was told why commands are due, or what the words ask for was built, with success, and where an audit was
-- asked for each command keeps all premises
abbrev pub EndsWell : List Text → Type 0
EndsWell words =
    AreRefused words Help ⊎ (((started : ℕ) × (refused : Bool) × AreDone words (Built (Success started) refused))
    ⊎ (AreDone words ToldWhy ⊎ AreKept words))
