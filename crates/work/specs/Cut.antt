-- What cuts a run off, and what is left then.
use Rattle.std.specs.Prelude.{◌≡◌, ℕ, Bool, true, false, Some}
use Rattle.model.specs.declared.fault.SiteFault.{SiteFault}
use Rattle.model.specs.declared.fault.SiteFault.TheVariants.{Device, Stopped, Memory}
use Rattle.model.specs.World.{World, runs, IsIdle}
use Rattle.work.specs.declared.cut.Cut.{Cut}
use Rattle.work.specs.declared.cut.Cut.TheVariants.{Waiting, Other}

abbrev pub fault_of : Cut → SiteFault
fault_of (Waiting fault) = fault
fault_of (Other fault) = fault

-- the site has refused a wait, or has stopped and would refuse each
abbrev pub is_final : Cut → Bool
is_final (Waiting fault) = true
is_final (Other Device) = false
is_final (Other Stopped) = true
is_final (Other Memory) = false

-- a wait was refused since the site was started last, and some command runs still
pub record HasRefusedWait (now : World) : Type 0 where
  pub some : (job : ℕ) × (runs job now.events ≡ true)
  pub noted : (count : ℕ) × (now.wait_refused ≡ Some count)

-- What is left when a fault has ended a build: no command runs, unless a wait was refused; a site that has stopped would
-- refuse each.
abbrev pub IsLeft : World → Cut → Type 0
IsLeft new (Waiting fault) = HasRefusedWait new
IsLeft new (Other Device) = IsIdle new.events
IsLeft new (Other Stopped) = Unit {0}
IsLeft new (Other Memory) = IsIdle new.events
