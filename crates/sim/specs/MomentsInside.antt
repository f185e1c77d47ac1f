-- The moments of a history as contracts see them.
use Rattle.std.specs.Prelude.{◌≡◌, ℕ, List, None}
use Rattle.std.specs.HashMap.{get_by_text}
use Rattle.model.specs.declared.event.Moment.{Moment}
use Rattle.sim.specs.declared.moments.Moments.TheInside.{Inside}
use Rattle.sim.specs.Notes.{told, all_undone}

abbrev pub moments_in : Inside → List Moment
moments_in moments = told moments.notes.items (get_by_text moments.lasts)

-- nothing was written before the first note
abbrev pub IsWhole : Inside → Type 0
IsWhole moments = (path : List ℕ) → all_undone moments.notes.items (get_by_text moments.lasts) path ≡ None
