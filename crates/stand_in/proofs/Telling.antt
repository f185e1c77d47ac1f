-- What is told before anything runs.
use Rattle.std.proofs.Common.{◌≡◌, ℕ, Bool, false, List, Result, Ok, Err, IfOk, OnOk}
use Rattle.model.specs.declared.fault.SiteFault.{SiteFault}
use Rattle.model.specs.Calls.{OnlyLooks}
use Rattle.model.specs.World.{IsIdle, World}
use Rattle.tools.specs.declared.declared.Declared.{Declared}
use Rattle.work.specs.declared.report.Report.{Report}
use Rattle.theory.proofs.Looks.{looks_nothing, looks_then}
use Rattle.stand_in.specs.Moves.{OnlyAsks, WasReadAlone, WasReadHere}
use Rattle.stand_in.proofs.Stages.{idle_then}

module _ (tells : Bool) where
  -- whatever was asked, there was only looked
  pub asks_looks : {T : Type 0} (Says : T → Type 0) (old new : World) (r : Result T SiteFault) → OnlyAsks tells Says old new r → OnlyLooks tells old new
  asks_looks Says old new (Ok value) asked = asked.0
  asks_looks Says old new (Err fault) asked = asked.0

  -- the site goes on where the build files were read
  pub goes_alone : (name : List ℕ) (old new : World) (r : Result Declared Report) → IfOk r (WasReadAlone tells name old new) → OnOk r (new.stopped ≡ false)
  goes_alone name old new (Ok declared) was = was.since.unrefused.goes_on
  goes_alone name old new (Err report) was = tt

  pub goes_here : (name : List ℕ) (old new : World) (r : Result Declared Report) → IfOk r (WasReadHere tells name old new) → OnOk r (new.stopped ≡ false)
  goes_here name old new (Ok declared) was = was.looked.unrefused.goes_on
  goes_here name old new (Err report) was = tt

pub looks_none : (tells : Bool) (w : World) → OnlyLooks tells w w
looks_none tells w = looks_nothing tells w

pub looks_on : (tells : Bool) (old mid new : World) → OnlyLooks tells old mid → OnlyLooks tells mid new → OnlyLooks tells old new
looks_on tells old mid new first second = looks_then tells old mid new first second

pub idle_still : (tells : Bool) (old new : World) → OnlyLooks tells old new → IsIdle old.events → IsIdle new.events
idle_still tells old new looks idle = idle_then tells old new looks idle

-- what follows of looks one behind another, also that no command runs
pub ruleset telling = (looks_none, looks_on, idle_still)
