-- Which commands run.
use Rattle.std.specs.Prelude.{◌≡◌, ℕ, ◌≤◌, ◌==◌, true, if◌then◌else◌, List, [], ◌∷◌, Option, Some, None}
use Rattle.model.specs.declared.act.Act.{Act}
use Rattle.model.specs.declared.event.Event.{Event}
use Rattle.model.specs.declared.event.Event.TheVariants.{Start, Finish}
use Rattle.model.specs.World.{runs}
use Rattle.sim.specs.declared.jobs.Order.{Order}
use Rattle.sim.specs.declared.jobs.Order.TheVariants.{First, Last}

-- what the job runs after an event
abbrev pub act_after : ℕ → Option Act → Event → Option Act
act_after j act (Start job started stamp) = if job == j then Some started else act
act_after j act (Finish job ok) = if job == j then None else act

abbrev pub act_from : ℕ → Option Act → List Event → Option Act
act_from j act [] = act
act_from j act (event ∷ events) = act_from j (act_after j act event) events

-- the act that the job runs, or nothing where it does not run
abbrev pub act_of : ℕ → List Event → Option Act
act_of j events = act_from j None events

-- none of these is lower, or higher
abbrev pub IsEnd : Order → ℕ → (ℕ → Type 0) → Type 0
IsEnd First job among = (other : ℕ) → among other → job ≤ other
IsEnd Last job among = (other : ℕ) → among other → other ≤ job

-- the job runs, and is the lowest or the highest that does
pub record IsNext (order : Order) (job : ℕ) (events : List Event) : Type 0 where
  pub running : runs job events ≡ true
  pub end : IsEnd order job (λ other. runs other events ≡ true)
