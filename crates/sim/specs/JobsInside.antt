-- What the starts and ends of a site are, as contracts see them.
use Rattle.std.specs.Prelude.{◌≡◌, ℕ, ◌+◌, ◌≤◌, false, option_map, take, drop, length, vec_capacity}
use Rattle.sim.specs.declared.jobs.Jobs.TheInside.{Inside}
use Rattle.sim.specs.declared.jobs.Running.{Running}
use Rattle.sim.specs.Jobs.{Told, running_at}
use Rattle.sim.specs.Running.{act_of}

abbrev pub told_by : Inside → Told
told_by jobs = record {
  earlier = take jobs.before jobs.events.items;
  events = drop jobs.before jobs.events.items;
  running = jobs.running.entries;
  stopped = jobs.stopped;
}

-- The last restart was at some point so far, there is room for the end of each running command, and those are listed that run.
pub record IsSound (jobs : Inside) : Type 0 where
  pub restart : jobs.before ≤ length jobs.events.items
  pub room : length jobs.events.items + length jobs.running.entries ≤ vec_capacity jobs.events
  pub runs : jobs.stopped ≡ false → (job : ℕ) → option_map (λ (one : Running). one.act) (running_at job jobs.running.entries) ≡ act_of job (drop jobs.before jobs.events.items)
