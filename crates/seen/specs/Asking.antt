-- What calls that only look leave, one after another.
use Rattle.std.specs.Prelude.{◌≡◌, ◌⊎◌, Bool, Result, Ok, Err, OnOk, OnErr}
use Rattle.model.specs.declared.fault.SiteFault.{SiteFault}
use Rattle.model.specs.declared.fault.SiteFault.TheVariants.{Memory}
use Rattle.model.specs.World.{World}
use Rattle.model.specs.Calls.{HasCause, KeepsWait, OnlyLooks}
use Rattle.theory.specs.Seen.{Unrefused}

-- no call was made, or each was answered
abbrev pub WasAnswered : World → World → Type 0
WasAnswered old new = (new ≡ old) ⊎ Unrefused old new

-- No command was started or taken in, and nothing was written. Where all is well, no call was made, or each was answered; a fault has its cause.
pub record Asks {T : Type 0} (tells : Bool) (old new : World) (result : Result T SiteFault) : Type 0 where
  pub looks : OnlyLooks tells old new
  pub waits : KeepsWait old new
  pub ok : OnOk result (WasAnswered old new)
  pub err : OnErr result (HasCause old new result)

-- nothing was done, but for a look, and this fault is answered
pub record Refuses (tells : Bool) (old new : World) (fault : SiteFault) : Type 0 where
  pub looks : OnlyLooks tells old new
  pub waits : KeepsWait old new
  pub cause : HasCause {T = Unit {0}} old new (Err fault)

-- the fault of a call; want of memory where it gave none
abbrev pub fault_of : {T : Type 0} → Result T SiteFault → SiteFault
fault_of (Ok value) = Memory
fault_of (Err fault) = fault
