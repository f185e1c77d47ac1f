-- What others do to the files of a site. The definition is this project's own.
use Rattle.std.specs.Prelude.{◌≡◌}
use Rattle.model.specs.World.{World}

-- nothing has changed but files
pub record OnlyFiles (old new : World) : Type 0 where
  pub events : new.events ≡ old.events
  pub earlier : new.earlier ≡ old.earlier
  pub ticked : new.ticked ≡ old.ticked
  pub failures : new.failures ≡ old.failures
  pub at_start : new.failures_at_start ≡ old.failures_at_start
  pub waits : new.wait_refused ≡ old.wait_refused
  pub stopped : new.stopped ≡ old.stopped
