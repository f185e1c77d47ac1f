-- What stamps tell of the clock, and which one a start gets. The definitions are this project's own.
use Rattle.std.specs.Prelude.{◌≡◌, ℕ, ◌≤◌, ◌<◌, ◌⊎◌, suc, max, Option, Some, None, Result, Ok, Err, IfSome}
use Rattle.model.specs.declared.fault.SiteFault.{SiteFault}
use Rattle.host.specs.declared.clock.Clock.{Clock}
use Rattle.host.specs.declared.clock.Touches.{Touches}
use Rattle.host.specs.declared.disk.Found.{Found}
use Rattle.host.specs.declared.disk.Standing.{Standing}

-- after a stamp was told
abbrev pub told_of : Clock → ℕ → Clock
told_of clock stamp = record clock { told = max clock.told stamp }

-- after a look: what it answered is told
abbrev pub clock_after : Clock → Result (Option ℕ) SiteFault → Clock
clock_after clock (Ok (Some stamp)) = told_of clock stamp
clock_after clock (Ok None) = clock
clock_after clock (Err fault) = clock

-- the stamp in the answer of a look that tells more
abbrev pub stamp_in : Result (Option Standing) SiteFault → Result (Option ℕ) SiteFault
stamp_in (Ok (Some standing)) = Ok (Some standing.stamp)
stamp_in (Ok None) = Ok None
stamp_in (Err fault) = Err fault

-- and of one by which a file is read
abbrev pub stamp_read : Result (Option Found) SiteFault → Result (Option ℕ) SiteFault
stamp_read (Ok (Some found)) = Ok (Some found.standing.stamp)
stamp_read (Ok None) = Ok None
stamp_read (Err fault) = Err fault

-- the start's stamp is that of the second touch, and it is noted that what is written from now on may get the same
pub record IsNoted (touches : Touches) (start : ℕ) (after : Clock) : Type 0 where
  pub same : start ≡ touches.second
  pub noted : after.unpassed ≡ Some touches.second

-- The stamp of a start, of two touches right before it. No stamp that was told is later, unless the clock fell since, and it lies
-- within one of the first touch: it is that of the first where they differ. Where the clock does not fall, it is earlier than the
-- second touch, and so than all that is written after it, or it is noted that it may not be. That is noted only where the touches
-- did not differ, and a stamp as late as theirs was told before.
pub record IsStart (before : Clock) (touches : Touches) (start : ℕ) (after : Clock) : Type 0 where
  pub told : before.told ≤ touches.first → before.told ≤ start
  pub most : start ≤ touches.first
  pub least : touches.first ≤ suc start
  pub apart : touches.first < touches.second → start ≡ touches.first
  pub later : touches.first ≤ touches.second → start < touches.second ⊎ IsNoted touches start after
  pub noted : IfSome after.unpassed (λ stamp. stamp ≡ touches.first × stamp ≡ touches.second × stamp ≤ before.told)
  pub grows : after.told ≡ max before.told start
