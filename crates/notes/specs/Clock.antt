-- Whether a clock went back. The definition is this project's own.
use Rattle.std.specs.Prelude.{ℕ, ◌-◌, ◌*◌, ◌/◌, ◌^◌, nat_lt, Option, Some, None, if◌then◌else◌}

-- a second, in nanoseconds
abbrev pub second : ℕ
second = 10 ^ 9

-- by how many whole seconds the tick is later than now, where that is more than two
abbrev pub seconds_ahead : ℕ → ℕ → Option ℕ
seconds_ahead tick now = if nat_lt (2 * second) (tick - now) then Some ((tick - now) / second) else None
