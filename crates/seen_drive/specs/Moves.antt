-- What one move has come to, and the moves so far: what the functions of this crate tell one another.
use Rattle.std.specs.Prelude.{◌≡◌, ℕ, Bool, false, List, [], ◌∷◌, ◌++◌, length}
use Rattle.model.specs.declared.moves.Move.{Move}
use Rattle.model.specs.Premises.{HaveEnded}
use Rattle.model.specs.World.{World}
use Rattle.work.specs.declared.report.Options.{Options}
use Rattle.work.specs.declared.report.Report.{Report}
use Rattle.drive.specs.Moves.{builds_among, reports_fault}
use Rattle.seen_drive.specs.Visits.{IsNextBuild, Visit, WasDriven, asks_at_end, asks_restart, entry_of, exit_of, is_restart, moves_in, reports_in}

-- a build was made, its report stands behind those before it, and is a fault just where `again`; else no command runs
pub record IsReported (tells : Bool) (options : Options) (words : List (List ℕ)) (again : Bool) (before after : List Report) (old new : World) : Type 0 where
  pub report : Report
  pub built : IsNextBuild tells options words old new report
  pub ended : reports_fault report ≡ false → HaveEnded new
  pub grows : after ≡ before ++ report ∷ []
  pub asks : again ≡ reports_fault report

-- One visit carries out the move: what it told stands behind the reports before it, and it asks for a restart where `again`; else no command runs.
pub record IsCarried (tells : Bool) (options : Options) (move : Move) (again : Bool) (before after : List Report) (old new : World) : Type 0 where
  pub visit : Visit tells options
  pub entry : entry_of visit ≡ old
  pub exit : exit_of visit ≡ new
  pub none : is_restart visit ≡ false
  pub does : moves_in (visit ∷ []) ≡ move ∷ []
  pub asks : asks_restart visit ≡ again
  pub counted : length (reports_in (visit ∷ [])) ≡ builds_among (move ∷ [])
  pub grows : after ≡ before ++ reports_in (visit ∷ [])
  pub ended : again ≡ false → HaveEnded new

-- WHAT THE LOOP KEEPS: the moves so far were carried out, and where no restart is asked for, no command runs.
pub record AreDone (tells : Bool) (options : Options) (moves : List Move) (again : Bool) (reports : List Report) (first now : World) : Type 0 where
  pub driven : WasDriven tells options moves reports first now
  pub asks : asks_at_end false driven.visits ≡ again
  pub ended : again ≡ false → HaveEnded now
