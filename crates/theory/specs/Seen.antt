-- What the site did since some point, and what a fault says of it.
use Rattle.std.specs.Prelude.{◌≡◌, ◌⊎◌, ◌<◌, Bool, true, false}
use Rattle.model.specs.declared.fault.SiteFault.{SiteFault}
use Rattle.model.specs.declared.fault.SiteFault.TheVariants.{Device, Stopped, Memory}
use Rattle.model.specs.World.{World}
use Rattle.model.specs.Calls.{OnlyLooks}
use Rattle.model.specs.SingleBuild.{IsBeforeRefusals}

-- what a fault says about the site
abbrev pub IsSeen : World → World → SiteFault → Type 0
IsSeen old new Device = old.failures < new.failures
IsSeen old new Stopped = new.stopped ≡ true
IsSeen old new Memory = IsBeforeRefusals old new

-- no call was refused so far, the site has not stopped, and it was not started again
pub record Unrefused (old now : World) : Type 0 where
  pub failures : now.failures ≡ old.failures
  pub began : old.stopped ≡ false
  pub goes_on : now.stopped ≡ false
  pub earlier : now.earlier ≡ old.earlier

-- calls that only looked since the entry, and were not refused
pub record Looked (tells : Bool) (old now : World) : Type 0 where
  pub looks : OnlyLooks tells old now
  pub unrefused : Unrefused old now

-- what was started, was started before any call was refused
abbrev pub StartsUnrefused : World → World → Type 0
StartsUnrefused old new = (new.failures_at_start ≡ old.failures_at_start) ⊎ (new.failures_at_start ≡ old.failures)
