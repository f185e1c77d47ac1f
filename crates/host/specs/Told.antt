-- What a site tells of its commands.
use Rattle.std.specs.Prelude.{ℕ, Bool, List, [], ◌∷◌, ◌++◌}
use Rattle.model.specs.declared.act.Act.{Act}
use Rattle.model.specs.declared.event.Event.{Event}
use Rattle.model.specs.declared.event.Event.TheVariants.{Start, Finish}

-- the starts and ends before the last restart, and those since
pub record Told : Type 0 where
  pub earlier : List Event
  pub events : List Event

abbrev pub nothing_told : Told
nothing_told = record { earlier = []; events = [] }

abbrev pub with_start : ℕ → Act → ℕ → Told → Told
with_start job act stamp told = record told { events = told.events ++ Start job act stamp ∷ [] }

abbrev pub with_finish : ℕ → Bool → Told → Told
with_finish job ok told = record told { events = told.events ++ Finish job ok ∷ [] }

abbrev pub restarted : Told → Told
restarted told = record { earlier = told.earlier ++ told.events; events = [] }
