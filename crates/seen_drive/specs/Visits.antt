-- What a list of moves comes to whose builds go by what was seen: visits, each of which begins where the one before has ended. All is this project's
-- own.
use Rattle.std.specs.Prelude.{◌≡◌, ◌⊎◌, ℕ, Bool, true, false, List, [], ◌∷◌, ◌++◌, Option, Some, None}
use Rattle.model.specs.declared.moves.Move.{Move}
use Rattle.model.specs.declared.moves.Move.TheVariants.{Write, Delete, Build}
use Rattle.model.specs.Calls.{IsRestart}
use Rattle.model.specs.Driven.{IsCutNext, StartsAgain}
use Rattle.model.specs.History.{IsEdit}
use Rattle.model.specs.World.{World}
use Rattle.paths.specs.Told.{graph_of}
use Rattle.work.specs.declared.report.Options.{Options}
use Rattle.work.specs.declared.report.Report.{Report}
use Rattle.builder.specs.declared.reading.Reading.{Reading}
use Rattle.builder.specs.Build.{IsUnread, WasRead}
use Rattle.builder.specs.Parts.{IsReportOfNoGraph}
use Rattle.drive.specs.Driven.{IsUnrefused}
use Rattle.drive.specs.Moves.{reports_fault}
use Rattle.seen_builds.specs.From.{IsSeenBuild}

-- ---- one build

-- What was read was built by what was seen. Or its edges make no graph: then each build of it reports so, and nothing was done.
abbrev pub IsReadBuild : Bool → Reading → World → World → Report → Type 0
IsReadBuild tells reading old new report =
    (IsReportOfNoGraph reading.asked.folder reading.manifest report × (new ≡ old))
    ⊎ IsSeenBuild tells (graph_of reading.manifest) reading.asked old new report

-- the file that the options name was read, for these words, and then what was read was built
pub record WasBuilt (tells : Bool) (options : Options) (words : List (List ℕ)) (old new : World) (report : Report) : Type 0 where
  pub reading : Reading
  pub between : World
  pub was_read : WasRead tells options old between reading
  pub given : reading.asked.given.now ≡ words
  pub built : IsReadBuild tells reading between new report

-- ONE BUILD that was asked for with these words, or its build files were not read
abbrev pub IsNextBuild : Bool → Options → List (List ℕ) → World → World → Report → Type 0
IsNextBuild tells options words old new report = IsUnread tells options.file old new report ⊎ WasBuilt tells options words old new report

-- ---- visits

-- One move, with what it began with and what it left: an edit, which somebody else makes; or a build, with what it reported. Or a restart.
pub data Visit (tells : Bool) (options : Options) : Type 0 where
  Edited : (path : List ℕ) → (content : Option (List ℕ)) → (old new : World) → IsEdit tells path content old new → Visit tells options
  Built : (words : List (List ℕ)) → (old new : World) → (report : Report) → IsNextBuild tells options words old new report → Visit tells options
  Restarted : (old new : World) → IsRestart tells old new → Visit tells options

abbrev pub entry_of : {tells : Bool} {options : Options} → Visit tells options → World
entry_of (Edited path content old new edit) = old
entry_of (Built words old new report build) = old
entry_of (Restarted old new restart) = old

abbrev pub exit_of : {tells : Bool} {options : Options} → Visit tells options → World
exit_of (Edited path content old new edit) = new
exit_of (Built words old new report build) = new
exit_of (Restarted old new restart) = new

-- each begins where the one before ended
abbrev pub FollowsFrom : {tells : Bool} {options : Options} → List (Visit tells options) → World → World → Type 0
FollowsFrom [] first last = last ≡ first
FollowsFrom (v ∷ vs) first last = (entry_of v ≡ first) × FollowsFrom vs (exit_of v) last

-- the move that is such an edit
abbrev pub edit_move : List ℕ → Option (List ℕ) → Move
edit_move path None = Delete path
edit_move path (Some content) = Write path content

-- the moves that these visits carry out, in order
abbrev pub moves_in : {tells : Bool} {options : Options} → List (Visit tells options) → List Move
moves_in [] = []
moves_in (Edited path content old new edit ∷ vs) = edit_move path content ∷ moves_in vs
moves_in (Built words old new report build ∷ vs) = Build words ∷ moves_in vs
moves_in (Restarted old new restart ∷ vs) = moves_in vs

-- what the builds among them reported, in order
abbrev pub reports_in : {tells : Bool} {options : Options} → List (Visit tells options) → List Report
reports_in [] = []
reports_in (Edited path content old new edit ∷ vs) = reports_in vs
reports_in (Built words old new report build ∷ vs) = report ∷ reports_in vs
reports_in (Restarted old new restart ∷ vs) = reports_in vs

-- ---- restarts

abbrev pub is_restart : {tells : Bool} {options : Options} → Visit tells options → Bool
is_restart (Edited path content old new edit) = false
is_restart (Built words old new report build) = false
is_restart (Restarted old new restart) = true

-- after it the site is started again before the next move: a build that reported a fault, or an edit in which the site stopped
abbrev pub asks_restart : {tells : Bool} {options : Options} → Visit tells options → Bool
asks_restart (Edited path content old new edit) = new.stopped
asks_restart (Built words old new report build) = reports_fault report
asks_restart (Restarted old new restart) = false

-- the site is started again just where that is asked for
abbrev pub RestartsFrom : {tells : Bool} {options : Options} → Bool → List (Visit tells options) → Type 0
RestartsFrom asked [] = Unit {0}
RestartsFrom asked (v ∷ vs) = (is_restart v ≡ asked) × RestartsFrom (asks_restart v) vs

-- whether that is asked for after these visits
abbrev pub asks_at_end : {tells : Bool} {options : Options} → Bool → List (Visit tells options) → Bool
asks_at_end asked [] = asked
asks_at_end asked (v ∷ vs) = asks_at_end (asks_restart v) vs

-- ---- a list of moves

-- THE MOVES WERE CARRIED OUT, by these visits, with a restart just where one was asked for, and these are the reports of the builds among them.
pub record WasDriven (tells : Bool) (options : Options) (moves : List Move) (reports : List Report) (first last : World) : Type 0 where
  pub visits : List (Visit tells options)
  pub follows : FollowsFrom visits first last
  pub carries : moves_in visits ≡ moves
  pub restarts : RestartsFrom false visits
  pub reported : reports_in visits ≡ reports

-- An edit found no memory: the moves before it were carried out, the site was started again where that was asked for, and the edit is left by half.
pub record IsCutInEdit (tells : Bool) (options : Options) (moves : List Move) (first last : World) : Type 0 where
  pub done : List Move
  pub rest : List Move
  pub splits : moves ≡ done ++ rest
  pub reports : List Report
  pub before : World
  pub driven : WasDriven tells options done reports first before
  pub again : World
  pub starts : StartsAgain tells (asks_at_end false driven.visits) before again
  pub cut : IsCutNext tells rest again last
  pub unrefused : IsUnrefused again last

-- there was no room for the reports, and nothing was done; or an edit found no memory, and that was the end
abbrev pub StopsShort : Bool → Options → List Move → World → World → Type 0
StopsShort tells options moves first last = (last ≡ first) ⊎ IsCutInEdit tells options moves first last
