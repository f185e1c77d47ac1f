-- A list of moves as it is carried out, visit by visit.
use Rattle.std.specs.Prelude.{◌≡◌, Bool, false, List}
use Rattle.std.specs.List.{AllByRecursion}
use Rattle.model.specs.declared.moves.Move.{Move}
use Rattle.model.specs.World.{World}
use Rattle.model.specs.Outcome.{Behaviour}
use Rattle.model.specs.Records.{LogFormat}
use Rattle.model.specs.Premises.{HaveEnded}
use Rattle.model.specs.SingleBuild.{Answer}
use Rattle.model.specs.History.{Visit, IsHistory}
use Rattle.model.specs.Driven.{Reader, CarriesOut, RestartsFrom, answers_in, HasLogs, asks_at_end}
use Rattle.theory.specs.Histories.{HasHeadline}

-- These moves were carried out so far, each build as the headline says and with its logs kept; the site is to be started again where `asked`, and else no
-- command runs.
pub record IsDrivenTo (tells : Bool) (B : Behaviour) (format : LogFormat) (R : Reader) (moves : List Move) (asked : Bool) (answers : List Answer) (first now : World) : Type 0 where
  pub visits : List (Visit tells B format)
  pub history : IsHistory visits first now
  pub headlines : AllByRecursion HasHeadline visits
  pub logs : AllByRecursion HasLogs visits
  pub carries : CarriesOut R moves visits
  pub restarts : RestartsFrom false visits
  pub asks : asks_at_end false visits ≡ asked
  pub ended : asked ≡ false → HaveEnded now
  pub answered : answers ≡ answers_in visits
