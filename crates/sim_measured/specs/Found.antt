-- What stands at a path of a site in memory.
use Rattle.std.specs.Prelude.{ℕ, List, Option, None, Some, length}
use Rattle.std.specs.Option.{option_map}
use Rattle.measure.specs.declared.measure.Measure.{Measure}

-- how long a file is, by what it holds
abbrev pub size_of : Option (List ℕ) → Option ℕ
size_of content = option_map length content

-- the measure of a file of this stamp and length, if there is one
abbrev pub found_by : (stamp size : Option ℕ) → Option Measure
found_by None size = None
found_by (Some stamp) None = None
found_by (Some stamp) (Some size) = Some (record { stamp = stamp; size = Some size; placed = stamp })

-- what a file of this stamp holds, and its measure, if there is one
abbrev pub read_by : (stamp : Option ℕ) → Option (List ℕ) → Option (List ℕ × Measure)
read_by None content = None
read_by (Some stamp) None = None
read_by (Some stamp) (Some content) = Some (content, record { stamp = stamp; size = Some (length content); placed = stamp })
