-- The site of real files as contracts see it.
use Rattle.std.specs.Prelude.{ℕ, true, false, [], Option, None}
use Rattle.model.specs.declared.act.Act.{Act}
use Rattle.model.specs.declared.outcome.Outcome.{Outcome}
use Rattle.model.specs.World.{World, View}
use Rattle.host.specs.declared.host.Host.{Host}
use Rattle.host.specs.Told.{Told, nothing_told}

-- a site that never stops and does not tell its files, by its parts
abbrev pub world_with : Told → (ticked failures at_start : ℕ) → (wait_refused : Option ℕ) → World
world_with told ticked failures at_start wait_refused = record {
  history = [];
  events = told.events;
  earlier = told.earlier;
  ticked = ticked;
  failures = failures;
  failures_at_start = at_start;
  wait_refused = wait_refused;
  stopped = false;
}

abbrev pub world_of : {W : Type 0} → Host W → World
world_of host = world_with host.jobs host.ticked host.failures host.failures_at_start host.wait_refused

-- nothing has happened
abbrev pub fresh : World
fresh = world_with nothing_told 0 0 0 None

-- what a command gives; it is told only by a site that tells its files
abbrev pub any_outcome : Act → View → Outcome
any_outcome act view = record { ok = true; writes = [] }
