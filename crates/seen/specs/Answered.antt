-- What is answered of what is found.
use Rattle.std.specs.Prelude.{ℕ, if◌then◌else◌, Bool, true, false, Option, Some, None}
use Rattle.seen_law.specs.Retold.{stamp_told}
use Rattle.seen.specs.declared.judging.Judged.{Judged}
use Rattle.measure.specs.declared.measure.Measure.{Measure}

-- the stamp that counts for what is found, which is judged so, and whose command was started under this stamp, or was not
abbrev pub counted_by : Judged → (started : Option ℕ) → Option Measure → Option ℕ
counted_by how started None = None
counted_by how started (Some found) = stamp_told how.counts started found.stamp

-- the stamp of what was found
abbrev pub own_stamp : Option Measure → Option ℕ
own_stamp None = None
own_stamp (Some found) = Some found.stamp

-- a file that a command of this build made is not put there by somebody
abbrev pub placed_by : (is_made : Bool) → Option Measure → Option Measure
placed_by is_made None = None
placed_by false (Some found) = Some found
placed_by true (Some found) = Some (record { stamp = found.stamp; size = found.size; placed = found.stamp })
