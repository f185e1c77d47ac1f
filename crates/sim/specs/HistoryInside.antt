-- A history as contracts see it.
use Rattle.std.specs.Prelude.{◌≡◌, List}
use Rattle.model.specs.declared.event.Moment.{Moment}
use Rattle.model.specs.World.{latest}
use Rattle.sim.specs.declared.history.History.TheInside.{Inside}

abbrev pub moments_of : Inside → List Moment
moments_of history = history.moments

-- the clock is the greatest stamp
abbrev pub IsSound : Inside → Type 0
IsSound history = history.clock ≡ latest history.moments
