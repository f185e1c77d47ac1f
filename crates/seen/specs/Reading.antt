-- What is read of a file that may not count.
use Rattle.std.specs.Prelude.{ℕ, List, Option, Some, None}
use Rattle.measure.specs.declared.measure.Measure.{Measure}

-- what stands there, where it counts
abbrev pub content_counted : Option ℕ → Option (List ℕ × Measure) → Option (List ℕ)
content_counted counts None = None
content_counted None (Some found) = None
content_counted (Some stamp) (Some found) = Some found.0

abbrev pub measure_in : Option (List ℕ × Measure) → Option Measure
measure_in None = None
measure_in (Some found) = Some found.1
