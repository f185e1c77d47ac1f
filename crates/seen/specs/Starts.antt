-- Under which stamps commands were started.
use Rattle.std.specs.Prelude.{ℕ, ◌&&◌, ◌-◌, nat_lt, Bool, true, false, if◌then◌else◌, is_none, List, Option, Some, None, length, set, slice_get}
use Rattle.model.specs.declared.event.Event.{Event}
use Rattle.model.specs.declared.event.Event.TheVariants.{Start, Finish}
use Rattle.seen.specs.Beginning.{joined}

-- the stamp of this event, if it is a start
abbrev pub stamp_in : Option Event → Option ℕ
stamp_in None = None
stamp_in (Some (Start job act stamp)) = Some stamp
stamp_in (Some (Finish job ok)) = None

-- that of the last of these events, where there are more than so many
abbrev pub start_in : List Event → ℕ → Option ℕ
start_in events before = if nat_lt before (length events) then stamp_in (slice_get events (length events - 1)) else None

-- the first start of each edge is kept
abbrev pub noted_start : List (Option ℕ) → ℕ → Option ℕ → List (Option ℕ)
noted_start starts job start = if nat_lt job (length starts) && is_none (joined (slice_get starts job)) then set starts job start else starts
