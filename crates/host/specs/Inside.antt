-- What the starts and ends of commands are, as contracts see them.
use Rattle.std.specs.Prelude.{◌≡◌, ℕ, ◌+◌, ◌≤◌, ◌==◌, List, [], ◌∷◌, if◌then◌else◌, take, drop, length, vec_capacity}
use Rattle.host.specs.declared.jobs.Jobs.TheInside.{Inside}
use Rattle.model.specs.World.{runs}
use Rattle.host.specs.Process.{jobs_of}
use Rattle.host.specs.Told.{Told}

-- how often a job is listed
abbrev pub times : ℕ → List ℕ → ℕ
times job [] = 0
times job (other ∷ jobs) = (if other == job then 1 else 0) + times job jobs

abbrev pub told_by : Inside → Told
told_by jobs = record {
  earlier = take jobs.before jobs.events.items;
  events = drop jobs.before jobs.events.items;
}

-- The last restart was at some point so far, there is room for the end of each running command, and a job has one command where it
-- runs, and else none.
pub record IsSound (jobs : Inside) : Type 0 where
  pub restart : jobs.before ≤ length jobs.events.items
  pub room : length jobs.events.items + length jobs.commands.items ≤ vec_capacity jobs.events
  pub listed : (job : ℕ) → times job (jobs_of jobs.commands.items) ≡ (if runs job (drop jobs.before jobs.events.items) then 1 else 0)
